-- There is one stream; and without changes it is one part.
use Rattle.std.proofs.Common.{◌≡◌, ◌⊎◌, inl, inr, ℕ, ◌+◌, ◌-◌, ◌*◌, ◌/◌, ◌%◌, ◌<◌, ◌≤◌, Bool, true, false, cond, List, [], ◌∷◌, length, map, refl, sym, ap, ap₂, subst, ◌∙◌, arith}
use Rattle.std.specs.Prelude.{flat_map, is_some}
use Rattle.std.specs.List.{list_any, range_with_len}
use Rattle.std.proofs.lemmas.Bool.{cases_lt}
use Rattle.std.proofs.lemmas.List.{append-nil}
use Rattle.plan_spec.specs.Plan.{ServiceFields, ChangeFields, PlanFields, kinds, sliced_of}
use Rattle.plan_spec.specs.Changes.{plan_in, versions}
use Rattle.plan_spec.specs.Signalling.{table_packets}
use Rattle.plan_spec.specs.Wholes.{is_whole_plan}
use Rattle.plan_law.proofs.Alone.{versions_alone, plan_alone}
use Rattle.stream_spec.specs.Units.{FrameSchedule, packets_of_kind}
use Rattle.stream_spec.specs.Slots.{is_of_service, slot_at, IsSlotCount}
use Rattle.stream_spec.specs.Parts.{PartFields, packets_from, service_packets, turn_count, turn_counts, kept_in, slot_in, records_of_slots}
use Rattle.stream_spec.specs.Stream.{has_frames, schedule_of, part_of, is_last, whole_cycles, IsPartCount, are_on_pids, IsStream}
use Rattle.stream_law.specs.Words.{only_schedule, only_part}
use Rattle.stream_law.proofs.Ranges.{flat_map_same, sum_same}
use Rattle.stream_law.proofs.Ends.{ends_from, one_count}
use Rattle.stream_law.proofs.KindPackets.{length-packets_of_kind}
use Rattle.stream_law.proofs.Carrying.{cycles_of, leaves_slots, keeps_none_from}
use Rattle.stream_law.proofs.Plans.{sendable}
use Rattle.stream_law.proofs.Wholes.{version_accepted}

-- the part of a version before it is known how many slots the others have: these say nothing of what its slots carry
abbrev part_alone : PlanFields → (ℕ → ℕ → List (List ℕ)) → ℕ → PartFields
part_alone plan datagrams version = part_of plan datagrams (λ v. 0) version

-- the slots before a part don't tell how many packets go out in rotation
turns_same : (before : ℕ → ℕ) (first second : ℕ → FrameSchedule) (datagrams : ℕ → List (List ℕ)) → ((k : ℕ) → (first k).first ≡ (second k).first)
    → (i : ℕ) (services : List ServiceFields)
    → turn_counts (map (λ (service : ServiceFields). service.kind) services) (packets_from i services before first datagrams)
    ≡ turn_counts (map (λ (service : ServiceFields). service.kind) services) (packets_from i services before second datagrams)
turns_same before first second datagrams same i [] = refl
turns_same before first second datagrams same i (service ∷ services) =
    ap₂ (λ (n : ℕ) (l : List ℕ). n ∷ l) (by_kind (is_some (sliced_of service.kind))) (turns_same before first second datagrams same (i + 1) services)
  where
    by_kind : (is_sliced : Bool) → turn_count is_sliced (packets_of_kind service.kind service.unicast (before i % 16) (first i) (datagrams i))
        ≡ turn_count is_sliced (packets_of_kind service.kind service.unicast (before i % 16) (second i) (datagrams i))
    by_kind true = refl
    by_kind false = length-packets_of_kind service.kind service.unicast (before i % 16) (before i % 16) (first i) (second i) (datagrams i) (same i)

module _ (plan : PlanFields) (datagrams : ℕ → ℕ → List (List ℕ)) where
  -- what slot s of a part carries
  slots_alone : (slots : ℕ → ℕ) (version s : ℕ) → slot_in (part_alone plan datagrams version) s ≡ slot_in (part_of plan datagrams slots version) s
  slots_alone slots version s =
      ap (λ (counts : List ℕ). slot_at (kept_in (part_alone plan datagrams version)) counts s)
      (turns_same (part_alone plan datagrams version).packets_before (part_alone plan datagrams version).schedules (part_of plan datagrams slots version).schedules (datagrams version)
      (λ k. refl) 0 (plan_in plan version).services)

  as_alone : (slots : ℕ → ℕ) (version least : ℕ) → IsSlotCount (slot_in (part_of plan datagrams slots version)) least → IsSlotCount (slot_in (part_alone plan datagrams version)) least
  as_alone slots version least count = record {
    last = λ s e. ap is_of_service (slots_alone slots version s) ∙ count.last s e;
    over = λ s le. ap is_of_service (slots_alone slots version s) ∙ count.over s le;
  }

  in_part : (slots : ℕ → ℕ) (version least : ℕ) → IsSlotCount (slot_in (part_alone plan datagrams version)) least → IsSlotCount (slot_in (part_of plan datagrams slots version)) least
  in_part slots version least count = record {
    last = λ s e. ap is_of_service (sym (slots_alone slots version s)) ∙ count.last s e;
    over = λ s le. ap is_of_service (sym (slots_alone slots version s)) ∙ count.over s le;
  }

  -- There is one.
  module _ (whole : is_whole_plan plan ≡ true) where
    -- where a part ends; of numbers that are no version's it doesn't matter
    found : (version : ℕ) → (least : ℕ) × (version ≤ length plan.changes → IsSlotCount (slot_in (part_alone plan datagrams version)) least)
    found version = by_place (cases_lt version (length plan.changes + 1))
      where
        of_version : version ≤ length plan.changes → (least : ℕ) × IsSlotCount (slot_in (part_alone plan datagrams version)) least
        of_version within =
            ends_from (kept_in (part_alone plan datagrams version)) (turn_counts (kinds (plan_in plan version)) (service_packets (part_alone plan datagrams version)))
            (leaves_slots (part_alone plan datagrams version) (sendable (plan_in plan version) (version_accepted plan whole version within)).leaves)
            (cycles_of (part_alone plan datagrams version) * plan.cycle)
            (keeps_none_from (part_alone plan datagrams version) (sendable (plan_in plan version) (version_accepted plan whole version within)).leaves)

        as_found : (least : ℕ) × IsSlotCount (slot_in (part_alone plan datagrams version)) least
            → (least : ℕ) × (version ≤ length plan.changes → IsSlotCount (slot_in (part_alone plan datagrams version)) least)
        as_found (least, count) = (least, λ within. count)

        by_place : (version < length plan.changes + 1) ⊎ (length plan.changes + 1 ≤ version)
            → (least : ℕ) × (version ≤ length plan.changes → IsSlotCount (slot_in (part_alone plan datagrams version)) least)
        by_place (inl less) = as_found (of_version (omega (arith, less)))
        by_place (inr more) = (0, λ within. absurd (omega (arith, within, more)))

    -- how many slots the parts have
    pub slots : ℕ → ℕ
    slots version = cond (is_last plan datagrams version) (found version).0 (whole_cycles plan.cycle (found version).0)

    pub counted : (version : ℕ) → version ≤ length plan.changes → IsPartCount plan datagrams slots version
    unfolding slots
    counted version within = record { least = (found version).0; count = in_part slots version (found version).0 ((found version).1 within); slots_are = refl }

    pub is_stream : are_on_pids plan ≡ true
        → IsStream plan datagrams (flat_map (λ version. records_of_slots (part_of plan datagrams slots version) (slots version)) (versions plan))
    is_stream defined = record { defined = defined; slots = slots; each = counted; records_are = refl }

    pub there_is : are_on_pids plan ≡ true → (records : List (List ℕ)) × IsStream plan datagrams records
    there_is defined = (flat_map (λ version. records_of_slots (part_of plan datagrams slots version) (slots version)) (versions plan), is_stream defined)

  -- And one alone.
  module _ (a b : List (List ℕ)) (one : IsStream plan datagrams a) (other : IsStream plan datagrams b) where
    same_slots : (version : ℕ) → version < length plan.changes + 1 → one.slots version ≡ other.slots version
    same_slots version less = by_counts (one.each version (omega (arith, less))) (other.each version (omega (arith, less)))
      where
        by_counts : IsPartCount plan datagrams one.slots version → IsPartCount plan datagrams other.slots version → one.slots version ≡ other.slots version
        by_counts it that =
            let same : it.least ≡ that.least = one_count (slot_in (part_alone plan datagrams version)) it.least that.least
            (as_alone one.slots version it.least it.count) (as_alone other.slots version that.least that.count) in
            it.slots_are
            ∙ ap (λ (n : ℕ). cond (is_last plan datagrams version) n (whole_cycles plan.cycle n)) same
            ∙ sym that.slots_are

    with_before : ℕ → ℕ → ℕ → PartFields
    with_before version slots table = record (part_alone plan datagrams version) { slots_before = slots; table_before = table; schedules = λ k. schedule_of plan datagrams slots k version }

    same_part : (version : ℕ) → version < length plan.changes + 1 → part_of plan datagrams one.slots version ≡ part_of plan datagrams other.slots version
    unfolding with_before
    same_part version less =
        ap₂ (with_before version)
        (sum_same one.slots other.slots 0 version (λ v before. same_slots v (omega (arith, before, less))))
        (sum_same (λ v. one.slots v / plan.cycle * table_packets (plan_in plan v)) (λ v. other.slots v / plan.cycle * table_packets (plan_in plan v)) 0 version
        (λ v before. ap (λ (n : ℕ). n / plan.cycle * table_packets (plan_in plan v)) (same_slots v (omega (arith, before, less)))))

    pub is_one : a ≡ b
    is_one =
        one.records_are
        ∙ flat_map_same (λ version. records_of_slots (part_of plan datagrams one.slots version) (one.slots version))
        (λ version. records_of_slots (part_of plan datagrams other.slots version) (other.slots version)) 0 (length plan.changes + 1)
        (λ version less. ap₂ records_of_slots (same_part version (omega (arith, less))) (same_slots version (omega (arith, less))))
        ∙ sym other.records_are

  -- Without changes.
  module _ (records : List (List ℕ)) (first : plan.version ≡ 0) (none : plan.changes ≡ []) (stream : IsStream plan datagrams records) where
    part_same : part_of plan datagrams stream.slots 0 ≡ only_part plan (datagrams 0)
    part_same = ap with_changes none ∙ ap (λ (p : PlanFields). only_part p (datagrams 0)) (plan_alone plan first none)
      where
        with_changes : List ChangeFields → PartFields
        with_changes changes = record (only_part (plan_in plan 0) (datagrams 0)) {
          schedules = λ k. record (only_schedule (plan_in plan 0)) { goes_on = list_any (has_frames plan datagrams k) (range_with_len 1 (length changes - 0)) };
        }

    last : is_last plan datagrams 0 ≡ true
    last = ap (λ (c : List ChangeFields). is_last (record plan { changes = c }) datagrams 0) none

    pub one_count_of : IsSlotCount (slot_in (only_part plan (datagrams 0))) (stream.slots 0)
    one_count_of = by_count (stream.each 0 (omega arith))
      where
        by_count : IsPartCount plan datagrams stream.slots 0 → IsSlotCount (slot_in (only_part plan (datagrams 0))) (stream.slots 0)
        by_count it =
            let least_is : it.least ≡ stream.slots 0 = sym (it.slots_are ∙ ap (λ (b : Bool). cond b it.least (whole_cycles plan.cycle it.least)) last) in
            subst (λ (n : ℕ). IsSlotCount (slot_in (only_part plan (datagrams 0))) n) least_is
            (subst (λ (p : PartFields). IsSlotCount (slot_in p) it.least) part_same it.count)

    pub one_part : records ≡ records_of_slots (only_part plan (datagrams 0)) (stream.slots 0)
    one_part =
        stream.records_are
        ∙ ap (flat_map (λ version. records_of_slots (part_of plan datagrams stream.slots version) (stream.slots version))) (versions_alone plan first none)
        ∙ append-nil (records_of_slots (part_of plan datagrams stream.slots 0) (stream.slots 0))
        ∙ ap (λ (p : PartFields). records_of_slots p (stream.slots 0)) part_same
