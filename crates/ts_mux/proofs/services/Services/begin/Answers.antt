use Rattle.std.proofs.Common.{◌≡◌, ◌⊎◌, inl, inr, ◌∙◌, ℕ, ◌+◌, ◌-◌, cond, ◌<◌, ◌≤◌, Option, None, List, length, get_or, map, [], sym, ap, arith, Some}
use Rattle.std.specs.Prelude.{slice_get, slice_index, slice_index_or}
use Rattle.std.proofs.lemmas.Bool.{cases_lt}
use Rattle.std.proofs.lemmas.List.{length-map, length-set}
use Rattle.std.proofs.lemmas.Option.{slice_get_within}
use Rattle.ts_spec.specs.Packet.{PacketFields}
use Rattle.plan_spec.specs.Plan.{ServiceFields, PlanFields, kinds}
use Rattle.plan_spec.specs.Changes.{pid_in}
use Rattle.stream_spec.specs.Services.{kind_at}
use Rattle.stream_spec.specs.Stream.{shares_pid}
use Rattle.time_slice.specs.Views.{windows_in}
use Rattle.plan.specs.Parts.{service_seen}
use Rattle.plan.specs.PlanView.{plan_fields}
use Rattle.plan.specs.declared.plan.Plan.{Plan}
use Rattle.stream_law.proofs.Plans.{few_services}
use Rattle.ts_mux.specs.Services.{packets_in, behind_in, turns_in_service, bursts_in, shape_in, shape_of, FrameShape, Bursts, no_bursts, bursts_of, left_in, Serving, counter_at, shapes_of, BeginsIn}
use Rattle.ts_mux.specs.declared.service_packets.ServicePackets.{ServicePackets}
use Rattle.ts_mux.proofs.Moved.{there_is}
use Rattle.ts_mux.proofs.Turned.{total_at}
use Rattle.ts_mux.proofs.Ended.{bursts_most}
use Rattle.ts_mux.proofs.Made.{map_item, shapes_at, no_packets, set_item, made_begin, made_few}
use Rattle.ts_mux.proofs.services.Services.begin.Goals as goal

-- as many services as the plan has
same_size : (plan : Plan) (items : List ServicePackets) (now : Serving) → map bursts_in items ≡ now.bursts → length now.bursts ≡ length plan.services → length items ≡ length plan.services
same_size plan items now is size = omega (arith, length-map items bursts_in, ap (λ (l : List Bursts). length l) is, size)

-- where nothing is left, no service has a packet
none_left : (items : List ServicePackets) (now : Serving) → map turns_in_service items ≡ now.turns → map bursts_in items ≡ now.bursts → left_in now ≡ 0 → (j : ℕ) (it : ServicePackets) → slice_get items j ≡ Some it → packets_in it ≡ []
none_left items now turns bursts out j it there =
    no_packets it
    (omega (
      arith,
      out,
      total_at now.turns j,
      ap (λ (ps : List (List PacketFields)). length (slice_index_or ps j [])) turns,
      ap (λ (ps : List PacketFields). length ps) (map_item turns_in_service items j it [] there),
    ))
    (omega (
      arith,
      out,
      bursts_most now.bursts j,
      ap (λ (bs : List Bursts). length (bursts_of bs j).packets) bursts,
      ap (λ (b : Bursts). length b.packets) (map_item bursts_in items j it no_bursts there),
    ))

sliced_as : (plan : PlanFields) (items : List ServicePackets) (now : Serving) → map shape_in items ≡ now.shapes → now.shapes ≡ shapes_of plan → length items ≡ length plan.services
    → (j : ℕ) (it : ServicePackets) → slice_get items j ≡ Some it → shape_in it ≡ shape_of (kind_at plan j)
sliced_as plan items now same is size j it there =
    sym (map_item shape_in items j it None there) ∙ ap (λ (bs : List (Option FrameShape)). get_or bs j None) (same ∙ is)
    ∙ shapes_at (kinds plan) j (omega (arith, slice_get_within items j it there, size, length-map plan.services (λ (s : ServiceFields). s.kind)))

pub loop-k-init : goal.loop-k-init
loop-k-init c =
    let items : List ServicePackets = c.self.inside.services.items in
    let now : Serving = c.args.self.now in
    let size : length items ≡ length c.args.plan.now.services = same_size c.args.plan.now items now (ap (λ (s : Serving). s.bursts) c.self.view_is) c.requires.size in
    record {
      size = size;
      made = λ j it less. absurd (omega (arith, less));
      rest = λ j it le there. (
        none_left items now (ap (λ (s : Serving). s.turns) c.self.view_is) (ap (λ (s : Serving). s.bursts) c.self.view_is) c.requires.out j it there,
        sym (map_item behind_in items j it 0 there) ∙ ap (λ (s : Serving). slice_index s.behind j) c.self.view_is,
        sliced_as (plan_fields c.args.plan.now) items now (ap (λ (s : Serving). s.shapes) c.self.view_is) c.requires.shapes (omega (arith, size, length-map c.args.plan.now.services service_seen)) j it there,
      );
      windows = ap (λ (s : Serving). s.windows) c.self.view_is;
    }

-- the service of a step
at_item : (items : List ServicePackets) (k : ℕ) (it : ServicePackets) → k < length items → it ≡ get_or items k it → slice_get items k ≡ Some it
at_item items k it less is = there_is items k it less ∙ ap (λ (s : ServicePackets). Some s) (sym is)

within : (plan : Plan) (items first : List ServicePackets) (now : Serving) (k end len : ℕ) → k < end → end ≡ len → len ≡ length first → length first ≡ length plan.services → length items ≡ length plan.services → k < length items
within plan items first now k end len less e e2 size size2 = omega (arith, less, e, e2, size, size2)

pub counter_of-counter-requires-clause-out : goal.counter_of-counter-requires-clause-out
counter_of-counter-requires-clause-out c =
    let items : List ServicePackets = c.loop-k.self-inside.services.items in
    let size = same_size c.args.plan.now c.self.inside.services.items c.args.self.now (ap (λ (s : Serving). s.bursts) c.self.view_is) c.requires.size in
    let known : c.loop-k.k < length items = omega (arith, c.loop-k-test.true, c.len-k-end.ensures, c.self.inside.services.ok.0, size, c.loop-k.invariant.size) in
    (c.loop-k.invariant.rest c.loop-k.k c.index.result.now (omega arith) (at_item items c.loop-k.k c.index.result.now known c.index.ensures)).0

pub restart-requires-clause-shape : goal.restart-requires-clause-shape
restart-requires-clause-shape c =
    let items : List ServicePackets = c.loop-k.self-inside.services.items in
    let size = same_size c.args.plan.now c.self.inside.services.items c.args.self.now (ap (λ (s : Serving). s.bursts) c.self.view_is) c.requires.size in
    let known : c.loop-k.k < length items = omega (arith, c.loop-k-test.true, c.len-k-end.ensures, c.self.inside.services.ok.0, size, c.loop-k.invariant.size) in
    (c.loop-k.invariant.rest c.loop-k.k c.index_mut.result.now (omega arith) (at_item items c.loop-k.k c.index_mut.result.now known c.index_mut.ensures.value)).2

pub loop-k-preserved : goal.loop-k-preserved
loop-k-preserved c =
    let plan : PlanFields = plan_fields c.args.plan.now in
    let items : List ServicePackets = c.loop-k.self-inside.services.items in
    let k : ℕ = c.loop-k.k in
    let new : ServicePackets = c.restart.new.service in
    let size = same_size c.args.plan.now c.self.inside.services.items c.args.self.now (ap (λ (s : Serving). s.bursts) c.self.view_is) c.requires.size in
    let known : k < length items = omega (arith, c.loop-k-test.true, c.len-k-end.ensures, c.self.inside.services.ok.0, size, c.loop-k.invariant.size) in
    let behind : behind_in c.index.result.now ≡ slice_index c.args.self.now.behind k
    = (c.loop-k.invariant.rest k c.index.result.now (omega arith) (at_item items k c.index.result.now known c.index.ensures)).1 in
    let counter : c.counter_of-counter.result ≡ counter_at plan c.args.version c.args.self.now.behind k
    = c.counter_of-counter.ensures.read ∙ ap (λ (n : ℕ). cond (shares_pid (pid_in plan c.args.version k) (pid_in plan (c.args.version - 1) k)) n 0) behind in
    record {
      size = length-set items k new ∙ c.loop-k.invariant.size;
      made = λ j it less there. made_at j it (set_item items k new j it there) (cases_lt j k) less counter;
      rest = λ j it le there. c.loop-k.invariant.rest j it (omega (arith, le)) ((set_item items k new j it there).1 (λ same. omega (arith, same, le)));
      windows = c.loop-k.invariant.windows;
    }
  where
    made_at : (j : ℕ) (it : ServicePackets) → (j ≡ c.loop-k.k → it ≡ c.restart.new.service) × ((j ≡ c.loop-k.k → ⊥) → slice_get c.loop-k.self-inside.services.items j ≡ Some it) → (j < c.loop-k.k) ⊎ (c.loop-k.k ≤ j) → j < c.loop-k.k + 1
        → c.counter_of-counter.result ≡ counter_at (plan_fields c.args.plan.now) c.args.version c.args.self.now.behind c.loop-k.k
        → BeginsIn (plan_fields c.args.plan.now) c.args.version j c.args.lists.now (counter_at (plan_fields c.args.plan.now) c.args.version c.args.self.now.behind j) c.args.before it
    made_at j it set_there (inl less) within_it counter = c.loop-k.invariant.made j it less (set_there.1 (λ same. omega (arith, same, less)))
    made_at j it set_there (inr le) within_it counter =
        let here : j ≡ c.loop-k.k = omega (arith, le, within_it) in
        rw (here, set_there.0 here, ← counter) c.restart.ensures.begun

pub returns-clause-begun : goal.returns-clause-begun
returns-clause-begun c =
    let size = same_size c.args.plan.now c.self.inside.services.items c.args.self.now (ap (λ (s : Serving). s.bursts) c.self.view_is) c.requires.size in
    λ part has.
    made_begin (plan_fields c.args.plan.now) c.args.version c.args.lists.now (counter_at (plan_fields c.args.plan.now) c.args.version c.args.self.now.behind) c.args.before c.loop-k.self-inside.services.items
    (omega (arith, c.loop-k.invariant.size, length-map c.args.plan.now.services service_seen))
    (λ j it there. c.loop-k.invariant.made j it (omega (arith, slice_get_within c.loop-k.self-inside.services.items j it there, c.loop-k-test.false, c.len-k-end.ensures, c.self.inside.services.ok.0, size, c.loop-k.invariant.size)) there)
    part has (windows_in c.loop-k.self-inside.windows.items) (c.loop-k.invariant.windows ∙ c.requires.windows)

pub returns-clause-most : goal.returns-clause-most
returns-clause-most c =
    let size = same_size c.args.plan.now c.self.inside.services.items c.args.self.now (ap (λ (s : Serving). s.bursts) c.self.view_is) c.requires.size in
    made_few (plan_fields c.args.plan.now) c.args.version c.args.lists.now (counter_at (plan_fields c.args.plan.now) c.args.version c.args.self.now.behind) c.args.before c.loop-k.self-inside.services.items
    (omega (arith, c.loop-k.invariant.size, length-map c.args.plan.now.services service_seen))
    (λ j it there. c.loop-k.invariant.made j it (omega (arith, slice_get_within c.loop-k.self-inside.services.items j it there, c.loop-k-test.false, c.len-k-end.ensures, c.self.inside.services.ok.0, size, c.loop-k.invariant.size)) there)
    (few_services (plan_fields c.args.plan.now) c.args.plan.now.valid)
