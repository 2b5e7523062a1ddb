-- A part without datagrams has no slots, so that one with slots is followed by none after the last with datagrams.
use Rattle.std.proofs.Common.{◌≡◌, ℕ, zero, suc, ◌+◌, ◌-◌, ◌*◌, ◌/◌, ◌%◌, ◌<◌, ◌≤◌, Bool, true, false, cond, not, ltb, get_or, List, [], length, map, refl, ap, ◌∙◌, arith, Some, None}
use Rattle.std.specs.Prelude.{slice_index_or}
use Rattle.std.specs.List.{list_any, range_with_len}
use Rattle.std.proofs.lemmas.Bool.{or_left, or_right}
use Rattle.std.proofs.lemmas.Nat.{div-mul-add}
use Rattle.ts_spec.specs.Packet.{PacketFields}
use Rattle.plan_spec.specs.Plan.{KindFields, ule, mpe, fec, gse, ServiceFields, PlanFields}
use Rattle.plan_spec.specs.Changes.{plan_in}
use Rattle.plan_law.proofs.Lists.{none_at}
use Rattle.plan_law.proofs.Kept.{length-services_in}
use Rattle.stream_spec.specs.Units.{FrameSchedule, packets_of_kind}
use Rattle.stream_spec.specs.Services.{kind_at}
use Rattle.stream_spec.specs.Slots.{Slot, of_table, of_service, empty, is_of_service}
use Rattle.stream_spec.specs.Parts.{PartFields, service_packets, slot_in}
use Rattle.stream_spec.specs.Stream.{part_of, has_datagrams, is_last, whole_cycles, IsPartCount}
use Rattle.stream_law.proofs.Next.{false_ltb}
use Rattle.stream_law.proofs.Wholes.{no_item}
use Rattle.stream_law.proofs.Sent.{packets_at}
use Rattle.stream_law.proofs.Carrying.{carried}

none_of_kind : (kind : KindFields) (unicast : List ℕ) (counter : ℕ) (schedule : FrameSchedule) → packets_of_kind kind unicast counter schedule [] ≡ []
none_of_kind (ule pid address packing) unicast counter schedule = refl
none_of_kind (mpe pid) unicast counter schedule = refl
none_of_kind (fec pid rows parity None) unicast counter schedule = refl
none_of_kind (fec pid rows parity (Some window)) unicast counter schedule = refl
none_of_kind (gse isi address) unicast counter schedule = refl

pub any_at : (p : ℕ → Bool) (start n i x : ℕ) → x ≡ start + i → i < n → p x ≡ true → list_any p (range_with_len start n) ≡ true
any_at p start zero i x e less is = absurd (omega (arith, less))
any_at p start (suc n) zero x e less is =
    let here : start ≡ x = omega (arith, e) in
    or_left (p start) (list_any p (range_with_len (start + 1) n)) (ap p here ∙ is)
any_at p start (suc n) (suc i) x e less is = or_right (p start) (list_any p (range_with_len (start + 1) n)) (any_at p (start + 1) n i x (omega (arith, e)) (omega (arith, less)) is)

module _ (plan : PlanFields) (some_cycle : 1 ≤ plan.cycle) (datagrams : ℕ → ℕ → List (List ℕ)) (slots : ℕ → ℕ) (version : ℕ) (it : IsPartCount plan datagrams slots version) where
  abbrev part : PartFields
  part = part_of plan datagrams slots version

  module _ (none : has_datagrams plan datagrams version ≡ false) where
    no_datagrams : (j : ℕ) → j < length plan.services → datagrams version j ≡ []
    no_datagrams j less =
        no_item (datagrams version j)
        (false_ltb 0 (length (datagrams version j)) (ap (λ (k : ℕ). ltb 0 (length (datagrams version k))) (at_zero j)
        ∙ none_at (λ k. ltb 0 (length (datagrams version k))) 0 (length plan.services) j none less))
      where
        at_zero : (n : ℕ) → n ≡ 0 + n
        at_zero n = omega arith

    no_packets : (j : ℕ) → j < length (plan_in plan version).services → length (slice_index_or (service_packets part) j []) ≡ 0
    no_packets j known =
        ap (λ (l : List PacketFields). length l)
        (packets_at part.packets_before part.schedules part.datagrams (plan_in plan version).services 0 j j (omega arith) known
        ∙ ap (packets_of_kind (kind_at (plan_in plan version) j) (get_or (map (λ (service : ServiceFields). service.unicast) (plan_in plan version).services) j []) (part.packets_before j % 16) (part.schedules j))
        (no_datagrams j (omega (arith, known, length-services_in plan version)))
        ∙ none_of_kind (kind_at (plan_in plan version) j) (get_or (map (λ (service : ServiceFields). service.unicast) (plan_in plan version).services) j []) (part.packets_before j % 16) (part.schedules j))

    no_least : it.least ≡ 0
    no_least = by_least it.least refl
      where
        not_of_service : (s : ℕ) (slot : Slot) → ((j n : ℕ) → slot ≡ of_service j n → (j < length (plan_in plan version).services) × (n < length (slice_index_or (service_packets part) j [])))
            → is_of_service slot ≡ true → ⊥
        not_of_service s (of_table n) within is = absurd (cc)
        not_of_service s (of_service j n) within is = absurd (omega (arith, (within j n refl).1, no_packets j (within j n refl).0))
        not_of_service s empty within is = absurd (cc)

        by_least : (n : ℕ) → it.least ≡ n → it.least ≡ 0
        by_least zero e = e
        by_least (suc s) e =
            absurd (not_of_service s (slot_in part s) (carried part s) (it.count.last s (omega (arith, e))))

    no_slots : slots version ≡ 0
    no_slots = by_last (is_last plan datagrams version) it.slots_are
      where
        no_cycles : whole_cycles plan.cycle 0 ≡ 0
        no_cycles =
            let few : (0 * plan.cycle + (plan.cycle - 1)) / plan.cycle ≡ 0 = div-mul-add 0 plan.cycle (plan.cycle - 1) (omega (arith, some_cycle)) in
            let same : 0 + plan.cycle - 1 ≡ 0 * plan.cycle + (plan.cycle - 1) = omega (arith, some_cycle) in
            ap (λ (n : ℕ). n / plan.cycle * plan.cycle) same ∙ ap (λ (n : ℕ). n * plan.cycle) few ∙ omega arith

        by_last : (last : Bool) → slots version ≡ cond last it.least (whole_cycles plan.cycle it.least) → slots version ≡ 0
        by_last true e = e ∙ no_least
        by_last false e = e ∙ ap (whole_cycles plan.cycle) no_least ∙ no_cycles

  -- an earlier part is not the last, where this one has slots
  pub none_behind_last : (earlier : ℕ) → earlier < version → version ≤ length plan.changes → 1 ≤ slots version → is_last plan datagrams earlier ≡ false
  none_behind_last earlier before within some = by_has (has_datagrams plan datagrams version) refl
    where
      by_has : (has : Bool) → has_datagrams plan datagrams version ≡ has → is_last plan datagrams earlier ≡ false
      by_has true e =
          ap not (any_at (has_datagrams plan datagrams) (earlier + 1) (length plan.changes - earlier) (version - (earlier + 1)) version (omega (arith, before)) (omega (arith, before, within)) e)
      by_has false e = absurd (omega (arith, some, no_slots e))
