-- All packets of a service go out in a part, in order and each once.
use Rattle.std.proofs.Common.{◌≡◌, ℕ, zero, suc, ◌+◌, ◌-◌, ◌*◌, ◌/◌, ◌%◌, ◌<◌, ◌≤◌, Bool, true, false, cond, eqb, get_or, List, [], ◌∷◌, ◌++◌, length, map, filter_map, sum, refl, sym, ap, ◌∙◌, arith, append-nil, Option, Some, None}
use Rattle.std.specs.Prelude.{slice_index, slice_index_or, is_some}
use Rattle.std.specs.List.{range_with_len}
use Rattle.std.proofs.Math.Nat.{le-mul_of_pos_right}
use Rattle.ts_spec.specs.Packet.{PacketFields}
use Rattle.plan_spec.specs.Plan.{ServiceFields, kinds, SlicedFields, sliced_of}
use Rattle.plan_spec.specs.Signalling.{table_packets}
use Rattle.plan_spec.specs.Valid.{is_plan}
use Rattle.stream_spec.specs.Services.{kind_at}
use Rattle.stream_spec.specs.Slots.{of_table, of_service, empty, IsSlotCount}
use Rattle.stream_spec.specs.Windows.{windows_of}
use Rattle.stream_spec.specs.Parts.{PartFields, service_packets, turn_count, turn_counts, sizes_in, kept_in, slot_in}
use Rattle.slice_law.proofs.Checks.{shorter}
use Rattle.slice_law.proofs.Turned.{IsWindowed, more, all_out}
use Rattle.slice_law.proofs.InPlans.{windowed}
use Rattle.stream_law.specs.Words.{number_of}
use Rattle.stream_law.proofs.Turns.{KeepsNoneOf, none_of, out_of}
use Rattle.stream_law.proofs.Ends.{all_out as turns_out}
use Rattle.stream_law.proofs.Sent.{packets_at}
use Rattle.stream_law.proofs.KindPackets.{bursts_are_all, no_bursts}
use Rattle.stream_law.proofs.Carrying.{same_length, length-packets_from, turn_at, length-turns, cycles_of, within_cycles, leaves_slots, IsOfBurst, kept_of_burst}

module _ (part : PartFields) (accepted : is_plan part.plan ≡ true) (k : ℕ) (known : k < length part.plan.services) where
  abbrev packets : List PacketFields
  packets = slice_index_or (service_packets part) k []

  abbrev turns : List ℕ
  turns = turn_counts (kinds part.plan) (service_packets part)

  abbrev out : ℕ → List ℕ
  out s = filter_map (number_of k) (map (slot_in part) (range_with_len 0 s))

  -- without a window
  module _ (none : sliced_of (kind_at part.plan k) ≡ None) where
    not_kept : KeepsNoneOf k (kept_in part)
    not_kept s (of_table n) e = refl
    not_kept s empty e = refl
    not_kept s (of_service j n) e = by_same (eqb j k) refl (kept_of_burst part s j n e)
      where
        by_same : (same : Bool) → eqb j k ≡ same → IsOfBurst part s j n → cond same (Some n) None ≡ None
        by_same false is it = refl
        by_same true is it =
            let one : j ≡ k = grind (arith, is) in
            let empty_is : sizes_in part j ≡ [] = ap (sizes_in part) one ∙ no_bursts (kind_at part.plan k) (part.datagrams k) none in
            absurd (omega (arith, it.below, ap (λ (l : List ℕ). slice_index l (s / part.plan.cycle)) empty_is))

    below : k < length turns
    below = omega (arith, known, length-turns (kinds part.plan) (service_packets part) (same_length part), length-packets_from part.packets_before part.schedules part.datagrams 0 part.plan.services)

    turns_are : slice_index turns k ≡ length packets
    turns_are = turn_at (kinds part.plan) (service_packets part) k (same_length part) ∙ ap (λ (o : Option SlicedFields). turn_count (is_some o) packets) none

    pub unsliced_out : (slots : ℕ) → IsSlotCount (slot_in part) slots → out slots ≡ range_with_len 0 (length packets)
    unsliced_out slots count =
        out_of (kept_in part) turns k not_kept below slots
        ∙ ap (range_with_len 0) (turns_out (kept_in part) turns (leaves_slots part (shorter part.plan accepted)) slots count k below ∙ turns_are)

  -- with one, which its bursts fit
  module _ (fields : SlicedFields) (is : sliced_of (kind_at part.plan k) ≡ Some fields) (fits : (c : ℕ) → slice_index (sizes_in part k) c ≤ fields.length) where
    no_turns : slice_index turns k ≡ 0
    no_turns = turn_at (kinds part.plan) (service_packets part) k (same_length part) ∙ ap (λ (o : Option SlicedFields). turn_count (is_some o) packets) is

    pub in_window : IsWindowed part.plan.cycle (table_packets part.plan) (windows_of part.plan) (sizes_in part) turns k fields.start fields.length
    in_window = windowed part.plan accepted k fields is (sizes_in part) fits turns no_turns

    pub all_are : length packets ≡ sum (sizes_in part k)
    all_are =
        ap (λ (l : List PacketFields). length l) (packets_at part.packets_before part.schedules part.datagrams part.plan.services 0 k k (omega arith) known)
        ∙ bursts_are_all (kind_at part.plan k) fields (get_or (map (λ (service : ServiceFields). service.unicast) part.plan.services) k []) (part.packets_before k % 16)
        (part.schedules k) (part.datagrams k) is

    pub sliced_out : (slots : ℕ) → IsSlotCount (slot_in part) slots → out slots ≡ range_with_len 0 (length packets)
    sliced_out slots count =
        sym (stays ((cycles_of part + slots) * part.plan.cycle - slots) ((cycles_of part + slots) * part.plan.cycle) (omega (arith, long)))
        ∙ all_out part.plan.cycle (table_packets part.plan) (windows_of part.plan) (sizes_in part) turns k fields.start fields.length in_window
        (cycles_of part + slots) (omega (arith, within_cycles part k))
        ∙ ap (range_with_len 0) (sym all_are)
      where
        long : cycles_of part + slots ≤ (cycles_of part + slots) * part.plan.cycle
        long = le-mul_of_pos_right {m = part.plan.cycle} (cycles_of part + slots) (omega (arith, shorter part.plan accepted))

        stays : (d s : ℕ) → s ≡ slots + d → out s ≡ out slots
        stays zero s e = let same : s ≡ slots = omega (arith, e) in ap out same
        stays (suc d) zero e = absurd (omega (arith, e))
        stays (suc d) (suc s) e =
            more part.plan.cycle (table_packets part.plan) (windows_of part.plan) (sizes_in part) turns k fields.start fields.length in_window s
            ∙ ap (λ (o : Option ℕ). out s ++ filter_map (λ (p : Option ℕ). p) (o ∷ [])) (none_of k (slot_in part s) (count.over s (omega (arith, e))))
            ∙ append-nil (out s) ∙ stays d s (omega (arith, e))

  -- so of each service
  pub service_out : ((fields : SlicedFields) → sliced_of (kind_at part.plan k) ≡ Some fields → (c : ℕ) → slice_index (sizes_in part k) c ≤ fields.length)
      → (slots : ℕ) → IsSlotCount (slot_in part) slots → filter_map (number_of k) (map (slot_in part) (range_with_len 0 slots)) ≡ range_with_len 0 (length (slice_index_or (service_packets part) k []))
  service_out fits slots count = by_kind (sliced_of (kind_at part.plan k)) refl
    where
      by_kind : (of : Option SlicedFields) → sliced_of (kind_at part.plan k) ≡ of → out slots ≡ range_with_len 0 (length packets)
      by_kind None e = unsliced_out e slots count
      by_kind (Some fields) e = sliced_out fields e (fits fields e) slots count
