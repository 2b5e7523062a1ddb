-- What a service delivers over its spans follows from the packets on its PIDs and on the INT's, whatever else is recorded.
use Rattle.std.proofs.Common.{◌≡◌, inl, inr, ℕ, ◌<◌, Bool, true, false, ◌&&◌, ◌||◌, cond, Option, None, Some, List, [], ◌∷◌, ◌++◌, length, map, flat_map, fold, refl, ap, ap₂, sym, ◌∙◌, subst, arith, append_assoc}
use Rattle.std.specs.Prelude.{filter, ◌==◌}
use Rattle.std.proofs.lemmas.Bool.{eqb-true}
use Rattle.std.specs.List.{list_any}
use Rattle.std.proofs.lemmas.List.{append-nil, length-append, nil_from_length, take-append-le, take_all}
use Rattle.std.proofs.lemmas.List.Elements.{filter-append}
use Rattle.ts_spec.specs.Recording.{Record}
use Rattle.ts_spec.specs.Received.{no_record, arrivals}
use Rattle.section_spec.specs.Section.{section_form}
use Rattle.plan_spec.specs.Plan.{IntFields, PlanFields, table_pids, pid_of}
use Rattle.plan_spec.specs.Changes.{has_pid, pid_in, pids_in}
use Rattle.plan_spec.specs.InForce.{version_behind}
use Rattle.channel_law.specs.Words.{timed_packet}
use Rattle.channel_law.proofs.Member.{Member, member_front, member_behind, contains_member}
use Rattle.reception_spec.specs.Packets.{is_on}
use Rattle.reception_spec.specs.Numbers.{no_numbers, units_on, units_of, unit_numbers}
use Rattle.reception_spec.specs.Frames.{rows_of, no_frames, sum_of_frames, frame_numbers}
use Rattle.reception_spec.specs.Sums.{sum_of_numbers, numbers_on, numbers_of, unit_numbers_of, frame_numbers_on, frame_numbers_of}
use Rattle.reception_spec.specs.Table.{table_pid, table_sections}
use Rattle.reception_spec.specs.Spans.{version_at_place, is_heard_on, span_from, span_of}
use Rattle.reception_spec.specs.Delivered.{service_on, delivered_on, delivered_of}
use Rattle.loss_law.specs.Loss.{service_at}
use Rattle.loss_law.specs.Isolation.{SamePackets, pids_for, is_for}
use Rattle.loss_law.proofs.OnePid.{units_same, service_units_same, service_numbers_same, told_frames_same, told_same, packets_kept}
use Rattle.loss_law.proofs.Pids.{pid_on}
use Rattle.loss_law.proofs.ServiceSpans.{none_behind}

-- what the same numbers give
pub flat_same : {X : Type 0} (f g : ℕ → List X) (xs : List ℕ) → ((x : ℕ) → Member xs x → f x ≡ g x) → flat_map f xs ≡ flat_map g xs
flat_same f g [] each = refl
flat_same {X} f g (x ∷ xs) each = ap₂ (λ (a b : List X). a ++ b) (each x (inl refl)) (flat_same f g xs (λ y there. each y (inr there)))

-- a packet of one of some PIDs
pub any_of : (pids : List ℕ) (pid : ℕ) (r : Record) → Member pids pid → is_on pid r ≡ true → list_any (λ (p : ℕ). is_on p r) pids ≡ true
any_of [] pid r there is = absurd there
any_of (p ∷ pids) pid r (inl same) is = ap (λ (b : Bool). b || list_any (λ (q : ℕ). is_on q r) pids) (ap (λ (q : ℕ). is_on q r) same ∙ is)
any_of (p ∷ pids) pid r (inr there) is = by_first (is_on p r) (any_of pids pid r there is)
  where
    by_first : (b : Bool) → list_any (λ (q : ℕ). is_on q r) pids ≡ true → (b || list_any (λ (q : ℕ). is_on q r) pids) ≡ true
    by_first true later = refl
    by_first false later = later

both_false : (a b : Bool) → b ≡ false → (a && b) ≡ false
both_false true b none = none
both_false false b none = refl

module _ (plan : PlanFields) (k : ℕ) where
  abbrev own_pids : List ℕ
  own_pids = pids_for plan k

  -- The packets of one of these PIDs.

  not_on : (pid : ℕ) → Member own_pids pid → (r : Record) → is_for plan k r ≡ false → is_on pid r ≡ false
  not_on pid there r other = by_test (is_on pid r) refl
    where
      by_test : (b : Bool) → is_on pid r ≡ b → b ≡ false
      by_test true is =
          let never : true ≡ false = sym (any_of (pids_for plan k) pid r there is) ∙ other in
          absurd (cc (never))
      by_test false is = refl

  both_filters : (pid : ℕ) → Member own_pids pid → (records : List Record) → filter (is_on pid) (filter (is_for plan k) records) ≡ filter (is_on pid) records
  both_filters pid there [] = refl
  both_filters pid there (r ∷ records) = by_test (is_for plan k r) refl (both_filters pid there records)
    where
      by_test : (b : Bool) → is_for plan k r ≡ b → filter (is_on pid) (filter (is_for plan k) records) ≡ filter (is_on pid) records
          → filter (is_on pid) (cond b (r ∷ filter (is_for plan k) records) (filter (is_for plan k) records)) ≡ filter (is_on pid) (r ∷ records)
      by_test true is later = ap (λ (t : List Record). cond (is_on pid r) (r ∷ t) t) later
      by_test false is later = later ∙ sym (ap (λ (b : Bool). cond b (r ∷ filter (is_on pid) records) (filter (is_on pid) records)) (not_on pid there r is))

  for_same : (pid : ℕ) → Member own_pids pid → (records : List Record) → SamePackets true pid records (filter (is_for plan k) records)
  for_same pid there records =
      packets_kept pid records
      ∙ ap (λ (t : List Record). map timed_packet (arrivals pid t)) (sym (both_filters pid there records))
      ∙ sym (packets_kept pid (filter (is_for plan k) records))

  -- so the version in force after the records is the same: the sections of the INT are, or nothing changes
  version_same : (records : List Record)
      → version_behind plan (table_sections plan records) ≡ version_behind plan (table_sections plan (filter (is_for plan k) records))
  version_same records = by_changes (length plan.changes == 0) refl
    where
      of_int : (int : IntFields) → plan.table ≡ Some int → (length plan.changes == 0) ≡ false → Member own_pids int.pid
      of_int int is changes =
          member_front (cond (length plan.changes == 0) [] (table_pids plan.table)) (pids_in plan k) int.pid
          (subst (λ (pids : List ℕ). Member pids int.pid) (sym (ap (λ (b : Bool). cond b [] (table_pids plan.table)) changes ∙ ap table_pids is)) (inl refl))

      by_table : (table : Option IntFields) → plan.table ≡ table → (length plan.changes == 0) ≡ false
          → units_on section_form (table_pid table) records ≡ units_on section_form (table_pid table) (filter (is_for plan k) records)
      by_table None is changes = refl
      by_table (Some int) is changes =
          units_same int.pid records (filter (is_for plan k) records) (for_same int.pid (of_int int is changes) records) section_form

      by_changes : (b : Bool) → (length plan.changes == 0) ≡ b
          → version_behind plan (table_sections plan records) ≡ version_behind plan (table_sections plan (filter (is_for plan k) records))
      by_changes true is =
          let none : plan.changes ≡ [] = nil_from_length plan.changes (eqb-true (length plan.changes) 0 is) in
          none_behind plan none (table_sections plan records) ∙ sym (none_behind plan none (table_sections plan (filter (is_for plan k) records)))
      by_changes false is = ap (version_behind plan) (by_table plan.table refl is)

  -- A span, where the records before are known.

  module _ (pid : ℕ) (there : Member own_pids pid) where
    abbrev heard_behind : List Record → Bool
    heard_behind front = has_pid (pid_in plan (version_behind plan (table_sections plan front)) k) pid

    abbrev span_behind : List Record → List Record → List Record
    span_behind front [] = []
    span_behind front (r ∷ records) = cond (heard_behind front) r no_record ∷ span_behind (front ++ r ∷ []) records

    heard_is : (front records : List Record) → is_heard_on plan (front ++ records) k pid (length front) ≡ heard_behind front
    unfolding version_at_place
    heard_is front records =
        ap (λ (t : List Record). has_pid (pid_in plan (version_behind plan (table_sections plan t)) k) pid)
        (take-append-le (length front) front records (omega arith) ∙ take_all (length front) front (omega arith))

    span_is : (front records : List Record) → span_from plan (front ++ records) k pid (length front) records ≡ span_behind front records
    span_is front [] = refl
    span_is front (r ∷ records) =
        ap₂ (λ (b : Bool) (t : List Record). cond b r no_record ∷ t) (heard_is front (r ∷ records))
        (ap₂ (λ (all : List Record) (place : ℕ). span_from plan all k pid place records) (sym (append_assoc front (r ∷ []) records)) (sym (length-append front (r ∷ [])))
        ∙ span_is (front ++ r ∷ []) records)

    first_is : (heard : Bool) (r : Record) (records : List Record)
        → filter (is_on pid) (cond heard r no_record ∷ records) ≡ cond (heard && is_on pid r) (r ∷ filter (is_on pid) records) (filter (is_on pid) records)
    first_is true r records = refl
    first_is false r records = refl

    -- the packets of the PID in it are those that it has of the packets for the service alone
    span_kept : (front records : List Record)
        → filter (is_on pid) (span_behind front records) ≡ filter (is_on pid) (span_behind (filter (is_for plan k) front) (filter (is_for plan k) records))
    span_kept front [] = refl
    span_kept front (r ∷ records) = by_test (is_for plan k r) refl (span_kept (front ++ r ∷ []) records)
      where
        fronts : (b : Bool) → is_for plan k r ≡ b → filter (is_for plan k) (front ++ r ∷ []) ≡ filter (is_for plan k) front ++ cond b (r ∷ []) []
        fronts b is = filter-append (is_for plan k) front (r ∷ []) ∙ ap (λ (c : Bool). filter (is_for plan k) front ++ cond c (r ∷ []) []) is

        heard_same : heard_behind front ≡ heard_behind (filter (is_for plan k) front)
        heard_same = ap (λ (version : ℕ). has_pid (pid_in plan version k) pid) (version_same front)

        by_test : (b : Bool) → is_for plan k r ≡ b
            → filter (is_on pid) (span_behind (front ++ r ∷ []) records)
            ≡ filter (is_on pid) (span_behind (filter (is_for plan k) (front ++ r ∷ [])) (filter (is_for plan k) records))
            → filter (is_on pid) (span_behind front (r ∷ records))
            ≡ filter (is_on pid) (span_behind (filter (is_for plan k) front) (cond b (r ∷ filter (is_for plan k) records) (filter (is_for plan k) records)))
        by_test true is later =
            first_is (heard_behind front) r (span_behind (front ++ r ∷ []) records)
            ∙ ap₂ (λ (b : Bool) (t : List Record). cond (b && is_on pid r) (r ∷ t) t) heard_same
            (later ∙ ap (λ (t : List Record). filter (is_on pid) (span_behind t (filter (is_for plan k) records))) (fronts true is))
            ∙ sym (first_is (heard_behind (filter (is_for plan k) front)) r
            (span_behind (filter (is_for plan k) front ++ r ∷ []) (filter (is_for plan k) records)))
        by_test false is later =
            first_is (heard_behind front) r (span_behind (front ++ r ∷ []) records)
            ∙ ap
            (λ (b : Bool). cond b (r ∷ filter (is_on pid) (span_behind (front ++ r ∷ []) records)) (filter (is_on pid) (span_behind (front ++ r ∷ []) records)))
            (both_false (heard_behind front) (is_on pid r) (not_on pid there r is))
            ∙ later
            ∙ ap (λ (t : List Record). filter (is_on pid) (span_behind t (filter (is_for plan k) records))) (fronts false is ∙ append-nil (filter (is_for plan k) front))

    span_packets : (records : List Record) → filter (is_on pid) (span_of plan k pid records) ≡ filter (is_on pid) (span_behind [] (filter (is_for plan k) records))
    span_packets records = ap (filter (is_on pid)) (span_is [] records) ∙ span_kept [] records

    span_alike : (records others : List Record) → filter (is_for plan k) records ≡ filter (is_for plan k) others → SamePackets true pid (span_of plan k pid records) (span_of plan k pid others)
    span_alike records others same =
        packets_kept pid (span_of plan k pid records)
        ∙ ap (λ (t : List Record). map timed_packet (arrivals pid t))
        (span_packets records ∙ ap (λ (t : List Record). filter (is_on pid) (span_behind [] t)) same ∙ sym (span_packets others))
        ∙ sym (packets_kept pid (span_of plan k pid others))

-- So a service delivers the same over its spans, and its numbers are the same.

pub map_same : {X : Type 0} (f g : ℕ → X) (xs : List ℕ) → ((x : ℕ) → Member xs x → f x ≡ g x) → map f xs ≡ map g xs
map_same f g [] each = refl
map_same {X} f g (x ∷ xs) each = ap₂ (λ (a : X) (l : List X). a ∷ l) (each x (inl refl)) (map_same f g xs (λ y there. each y (inr there)))

abbrev pub SameSpans : PlanFields → ℕ → List Record → List Record → Type 0
SameSpans plan k records others = (pid : ℕ) → Member (pids_in plan k) pid → SamePackets true pid (span_of plan k pid records) (span_of plan k pid others)

pub spans_by_records : (plan : PlanFields) (k : ℕ) (records others : List Record) → filter (is_for plan k) records ≡ filter (is_for plan k) others → SameSpans plan k records others
spans_by_records plan k records others same pid there =
    span_alike plan k pid (member_behind (cond (length plan.changes == 0) [] (table_pids plan.table)) (pids_in plan k) pid there) records others same

module _ (plan : PlanFields) (k : ℕ) (known : k < length plan.services) (records others : List Record) (alike : SameSpans plan k records others) where
  on : (pid : ℕ) → Member (pids_in plan k) pid → pid_of (service_on plan k pid).kind ≡ Some pid
  on pid there = pid_on plan k pid (record { service = known; own = contains_member (pids_in plan k) pid there })

  pub delivered_by_spans : delivered_of plan k records ≡ delivered_of plan k others
  delivered_by_spans =
      flat_same (delivered_on plan k records) (delivered_on plan k others) (pids_in plan k)
      (λ pid there.
      told_same pid (span_of plan k pid records) (span_of plan k pid others) (alike pid there) true plan.recording (service_on plan k pid) (on pid there))

  pub numbers_by_spans : numbers_of plan k records ≡ numbers_of plan k others
  numbers_by_spans =
      ap (fold sum_of_numbers no_numbers)
      (map_same (numbers_on plan k records) (numbers_on plan k others) (pids_in plan k)
      (λ pid there. service_numbers_same pid (span_of plan k pid records) (span_of plan k pid others) (alike pid there) (service_on plan k pid) (on pid there)))

  pub unit_numbers_by_spans : unit_numbers_of plan k records ≡ unit_numbers_of plan k others
  unit_numbers_by_spans =
      ap (unit_numbers (service_at plan k))
      (flat_same (λ pid. units_of (service_on plan k pid) (span_of plan k pid records)) (λ pid. units_of (service_on plan k pid) (span_of plan k pid others)) (pids_in plan k)
      (λ pid there. service_units_same pid (span_of plan k pid records) (span_of plan k pid others) (alike pid there) (service_on plan k pid) (on pid there)))

  pub frame_numbers_by_spans : frame_numbers_of plan k records ≡ frame_numbers_of plan k others
  frame_numbers_by_spans =
      ap (fold sum_of_frames no_frames)
      (map_same (frame_numbers_on true plan k records) (frame_numbers_on true plan k others) (pids_in plan k)
      (λ pid there.
      ap (frame_numbers (rows_of (service_on plan k pid).kind))
      (told_frames_same pid (span_of plan k pid records) (span_of plan k pid others) (alike pid there) true plan.recording (service_on plan k pid).kind (on pid there))))
