use Rattle.std.proofs.Common.{◌≡◌, ◌⊎◌, inl, inr, ◌∙◌, ℕ, ◌+◌, ◌<◌, ◌≤◌, List, length, get_or, set, [], ◌∷◌, sym, ap, arith, Some}
use Rattle.std.specs.Prelude.{slice_get}
use Rattle.std.proofs.lemmas.List.{length-map, length-append, length-set, get_or-set_same, get_or-set_other}
use Rattle.std.proofs.lemmas.Bool.{cases_lt}
use Rattle.plan_spec.specs.Plan.{ServiceFields}
use Rattle.plan.specs.Parts.{service_seen, kind_seen}
use Rattle.plan.specs.PlanView.{plan_fields}
use Rattle.stream_law.proofs.Plans.{few_services}
use Rattle.ts_mux.specs.ServiceUnits.{AreUnitsFor}
use Rattle.ts_mux.specs.Services.{frames_before}
use Rattle.ts_mux.specs.declared.service_units.ServiceUnits.{ServiceUnits}
use Rattle.ts_mux.proofs.Moved.{frames_at}
use Rattle.ts_mux.proofs.Numbers.{frames_next, frames_most}
use Rattle.ts_mux.proofs.Items.{map_at, each_pushed}
use Rattle.ts_mux.proofs.part_units.PartUnits.new.Goals as goal

same_of : {X : Type 0} (a b : X) (k : ℕ) (xs : List X) → slice_get xs k ≡ Some a → slice_get xs k ≡ Some b → a ≡ b
same_of a b k xs one two = cc

pub overflow_cast-k : goal.overflow_cast-k
overflow_cast-k c =
    omega (arith, few_services (plan_fields c.args.plan.now) c.args.plan.now.valid, c.loop-k-test.true, c.len-k-end.ensures.read, length-map c.args.plan.now.services service_seen)

pub units_of_service-requires-clause-on_pid : goal.units_of_service-requires-clause-on_pid
units_of_service-requires-clause-on_pid c =
    (c.requires.lists.each c.loop-k.k (service_seen c.at.result.now) c.at-list.result.now (map_at service_seen c.args.plan.now.services c.loop-k.k c.at.result.now c.at.ensures.read) c.at-list.ensures.read).on_pid

pub units_of_service-requires-clause-datagrams : goal.units_of_service-requires-clause-datagrams
units_of_service-requires-clause-datagrams c =
    (c.requires.lists.each c.loop-k.k (service_seen c.at.result.now) c.at-list.result.now (map_at service_seen c.args.plan.now.services c.loop-k.k c.at.result.now c.at.ensures.read) c.at-list.ensures.read).datagrams_are

pub units_of_service-requires-clause-few : goal.units_of_service-requires-clause-few
units_of_service-requires-clause-few c =
    (c.requires.lists.each c.loop-k.k (service_seen c.at.result.now) c.at-list.result.now (map_at service_seen c.args.plan.now.services c.loop-k.k c.at.result.now c.at.ensures.read) c.at-list.ensures.read).few

pub units_of_service-requires-clause-frames : goal.units_of_service-requires-clause-frames
units_of_service-requires-clause-frames c = frames_at c.args.plan.now c.loop-k.k c.at.result.now c.at.ensures.read

-- how many frames the service has
pub frames-requires : goal.frames-requires
frames-requires c =
    omega (
      arith,
      c.in_ok-of_service.ensures.frames,
      frames_most (kind_seen c.at.result.now.kind) c.at-list.result.now,
      (c.requires.lists.each c.loop-k.k (service_seen c.at.result.now) c.at-list.result.now (map_at service_seen c.args.plan.now.services c.loop-k.k c.at.result.now c.at.ensures.read) c.at-list.ensures.read).few,
    )

-- the number of the service's first frame in the next part
pub overflow_add-numbers : goal.overflow_add-numbers
overflow_add-numbers c =
    let known : c.loop-k.k < length (plan_fields c.args.plan.now).services = omega (arith, c.loop-k-test.true, c.len-k-end.ensures.read, length-map c.args.plan.now.services service_seen) in
    omega (
      arith,
      c.loop-k.invariant.left c.loop-k.k (omega arith) known,
      c.frames.ensures,
      c.in_ok-of_service.ensures.frames,
      frames_next c.args.plan.now c.args.lists.now c.args.version c.loop-k.k c.at.result.now c.at-list.result.now c.at.ensures.read c.at-list.ensures.read,
      c.requires.few c.loop-k.k known,
    )

pub loop-k-preserved : goal.loop-k-preserved
loop-k-preserved c =
    let k : ℕ = c.loop-k.k in
    let numbers : List ℕ = c.loop-k.numbers in
    let lists = c.args.lists.now in
    let version : ℕ = c.args.version in
    let more : ℕ = get_or numbers k 0 + c.frames.result in
    let known : k < length (plan_fields c.args.plan.now).services = omega (arith, c.loop-k-test.true, c.len-k-end.ensures.read, length-map c.args.plan.now.services service_seen) in
    let first : get_or numbers k 0 ≡ frames_before (plan_fields c.args.plan.now) lists version k = c.loop-k.invariant.left k (omega arith) known in
    let next : more ≡ frames_before (plan_fields c.args.plan.now) lists (version + 1) k
    = omega (
      arith,
      first,
      c.frames.ensures,
      c.in_ok-of_service.ensures.frames,
      frames_next c.args.plan.now lists version k c.at.result.now c.at-list.result.now c.at.ensures.read c.at-list.ensures.read,
    ) in
    record {
      size = ap (λ (l : List ServiceUnits). length l) c.in_ok-push.ensures.items ∙ length-append c.loop-k.units.items (c.in_ok-of_service.of_service ∷ []) ∙ omega (arith, c.loop-k.invariant.size);
      each = λ i service datagrams units found listed there.
          each_pushed
          (λ j (u : ServiceUnits). (s : ServiceFields) (ds : List (List ℕ)) → slice_get (plan_fields c.args.plan.now).services j ≡ Some s → slice_get (get_or lists version []) j ≡ Some ds
          → AreUnitsFor s.kind s.unicast (frames_before (plan_fields c.args.plan.now) lists version j) ds u)
          c.loop-k.units.items c.push.new.self.items c.in_ok-of_service.of_service k c.loop-k.invariant.size c.in_ok-push.ensures.items
          (λ j u is s ds of_plan of_list. c.loop-k.invariant.each j s ds u of_plan of_list is)
          (λ s ds of_plan of_list.
          let same = same_of (service_seen c.at.result.now) s k (plan_fields c.args.plan.now).services (map_at service_seen c.args.plan.now.services k c.at.result.now c.at.ensures.read) of_plan in
          let list = same_of c.at-list.result.now ds k (get_or lists version []) c.at-list.ensures.read of_list in
          rw (← same, ← list, ← first) c.in_ok-of_service.ensures.made)
          i units there service datagrams found listed;
      long = length-set numbers k more ∙ c.loop-k.invariant.long;
      done = λ j less. done_of j (cases_lt j k) less next;
      left = λ j le known_j.
          get_or-set_other numbers k j more 0 (λ e. omega (arith, e, le)) ∙ c.loop-k.invariant.left j (omega (arith, le)) known_j;
    }
  where
    done_of : (j : ℕ) → (j < c.loop-k.k) ⊎ (c.loop-k.k ≤ j) → j < c.loop-k.k + 1
        → get_or c.loop-k.numbers c.loop-k.k 0 + c.frames.result ≡ frames_before (plan_fields c.args.plan.now) c.args.lists.now (c.args.version + 1) c.loop-k.k
        → get_or (set c.loop-k.numbers c.loop-k.k (get_or c.loop-k.numbers c.loop-k.k 0 + c.frames.result)) j 0 ≡ frames_before (plan_fields c.args.plan.now) c.args.lists.now (c.args.version + 1) j
    done_of j (inl less) within next =
        get_or-set_other c.loop-k.numbers c.loop-k.k j (get_or c.loop-k.numbers c.loop-k.k 0 + c.frames.result) 0 (λ e. omega (arith, e, less)) ∙ c.loop-k.invariant.done j less
    done_of j (inr le) within next =
        let here : c.loop-k.k ≡ j = omega (arith, le, within) in
        ap (λ (i : ℕ). get_or (set c.loop-k.numbers c.loop-k.k (get_or c.loop-k.numbers c.loop-k.k 0 + c.frames.result)) i 0) (sym here)
        ∙ get_or-set_same c.loop-k.numbers c.loop-k.k (get_or c.loop-k.numbers c.loop-k.k 0 + c.frames.result) 0
        (omega (arith, c.loop-k.invariant.long, c.loop-k-test.true, c.len-k-end.ensures.read, length-map c.args.plan.now.services service_seen))
        ∙ next
        ∙ ap (frames_before (plan_fields c.args.plan.now) c.args.lists.now (c.args.version + 1)) here
