-- A part ends where all packets of the services are out for the first time.
use Rattle.std.proofs.Common.{◌≡◌, ◌⊎◌, inl, inr, ℕ, ◌+◌, ◌-◌, ◌*◌, ◌/◌, ◌<◌, ◌≤◌, Bool, true, cond, eqb, List, [], ◌++◌, length, map, filter_map, refl, ap, subst, ◌∙◌, arith, Option, Some, None}
use Rattle.std.specs.Prelude.{slice_index}
use Rattle.std.specs.List.{range_with_len, cons_option}
use Rattle.std.proofs.lemmas.Bool.{cases_lt}
use Rattle.std.proofs.lemmas.List.{length-append, map-append}
use Rattle.std.proofs.lemmas.List.Elements.{filter_map-append}
use Rattle.plan_spec.specs.Plan.{kinds, SlicedFields, sliced_of}
use Rattle.plan_spec.specs.Valid.{is_plan}
use Rattle.stream_spec.specs.Services.{kind_at}
use Rattle.stream_spec.specs.Slots.{Slot, of_table, of_service, empty, is_of_service, IsSlotCount}
use Rattle.stream_spec.specs.Parts.{PartFields, service_packets, turn_counts, sizes_in, kept_in, slot_in}
use Rattle.slice_law.proofs.Checks.{shorter}
use Rattle.stream_law.specs.Words.{number_of, AreOutIn, AreFirstOutIn}
use Rattle.stream_law.proofs.Ranges.{range_append}
use Rattle.stream_law.proofs.Turns.{carried_there}
use Rattle.stream_law.proofs.Ends.{ends_from}
use Rattle.stream_law.proofs.Carrying.{same_length, length-packets_from, length-turns, no_sizes, cycles_of, leaves_slots, keeps_none_from, IsOfBurst, kept_of_burst}
use Rattle.stream_law.proofs.AllOut.{service_out}

module _ (part : PartFields) (j : ℕ) where
  abbrev out : ℕ → List ℕ
  out s = filter_map (number_of j) (map (slot_in part) (range_with_len 0 s))

  out_both : (a d : ℕ) → out (a + d) ≡ out a ++ filter_map (number_of j) (map (slot_in part) (range_with_len a d))
  out_both a d =
      ap (λ (l : List ℕ). filter_map (number_of j) (map (slot_in part) l)) (range_append 0 a d a (omega arith))
      ∙ ap (filter_map (number_of j)) (map-append (slot_in part) (range_with_len 0 a) (range_with_len a d))
      ∙ filter_map-append (number_of j) (map (slot_in part) (range_with_len 0 a)) (map (slot_in part) (range_with_len a d))

  grown : (a s : ℕ) → a ≤ s → length (out a) ≤ length (out s)
  grown a s le =
      let all : s ≡ a + (s - a) = omega (arith, le) in
      omega (
        arith,
        ap (λ (n : ℕ). length (out n)) all,
        ap (λ (l : List ℕ). length l) (out_both a (s - a)),
        length-append (out a) (filter_map (number_of j) (map (slot_in part) (range_with_len a (s - a)))),
      )

  one_more : (s n : ℕ) → slot_in part s ≡ of_service j n → length (out (s + 1)) ≡ length (out s) + 1
  one_more s n e =
      omega (
        arith,
        ap (λ (l : List ℕ). length l) (out_both s 1),
        length-append (out s) (filter_map (number_of j) (map (slot_in part) (range_with_len s 1))),
        ap (λ (o : Option ℕ). length (cons_option o [])) (ap (number_of j) e ∙ own (eqb j j) (grind arith)),
      )
    where
      own : (is : Bool) → is ≡ true → cond is (Some n) None ≡ Some n
      own is e2 = ap (λ (b : Bool). cond b (Some n) None) e2

module _ (part : PartFields) (accepted : is_plan part.plan ≡ true)
    (fits : (k : ℕ) (fields : SlicedFields) → sliced_of (kind_at part.plan k) ≡ Some fields → (c : ℕ) → slice_index (sizes_in part k) c ≤ fields.length) where
  -- a slot carries packets of services of the plan alone
  known : (s j n : ℕ) → slot_in part s ≡ of_service j n → j < length part.plan.services
  known s j n e = by_place (carried_there (kept_in part) (turn_counts (kinds part.plan) (service_packets part)) s j n e)
    where
      of_burst : (j < length part.plan.services) ⊎ (length part.plan.services ≤ j) → IsOfBurst part s j n → j < length part.plan.services
      of_burst (inl less) it = less
      of_burst (inr past) it =
          absurd (omega (arith, it.below, ap (λ (l : List ℕ). slice_index l (s / part.plan.cycle)) (no_sizes part j past)))

      by_place : (kept_in part s ≡ Some (of_service j n)) ⊎ ((j < length (turn_counts (kinds part.plan) (service_packets part)))
          × (n < slice_index (turn_counts (kinds part.plan) (service_packets part)) j)) → j < length part.plan.services
      by_place (inl e2) = of_burst (cases_lt j (length part.plan.services)) (kept_of_burst part s j n e2)
      by_place (inr turn) =
          omega (
            arith,
            turn.0,
            length-turns (kinds part.plan) (service_packets part) (same_length part),
            length-packets_from part.packets_before part.schedules part.datagrams 0 part.plan.services,
          )

  pub out_there : (slots : ℕ) → IsSlotCount (slot_in part) slots → AreFirstOutIn part slots
  out_there slots count = record { out = all_are; first = none_earlier }
    where
      all_are : AreOutIn part slots
      all_are k less = service_out part accepted k less (fits k) slots count

      none_earlier : (earlier : ℕ) → earlier < slots → AreOutIn part earlier → ⊥
      none_earlier earlier less are =
          let place : slots ≡ (slots - 1) + 1 = omega (arith, less) in
          by_slot (slot_in part (slots - 1)) refl (count.last (slots - 1) place)
        where
          by_service : (j n : ℕ) → slot_in part (slots - 1) ≡ of_service j n → ⊥
          by_service j n e =
              let place : slots ≡ (slots - 1) + 1 = omega (arith, less) in
              absurd (omega (
                arith,
                ap (λ (l : List ℕ). length l) (all_are j (known (slots - 1) j n e)),
                ap (λ (l : List ℕ). length l) (are j (known (slots - 1) j n e)),
                ap (λ (s : ℕ). length (out part j s)) place,
                one_more part j (slots - 1) n e,
                grown part j earlier (slots - 1) (omega (arith, less)),
              ))

          by_slot : (slot : Slot) → slot_in part (slots - 1) ≡ slot → is_of_service slot ≡ true → ⊥
          by_slot (of_table n) e is = absurd (cc (is))
          by_slot (of_service j n) e is = by_service j n e
          by_slot empty e is = absurd (cc (is))

  pub ends_there : (slots : ℕ) → AreFirstOutIn part slots → IsSlotCount (slot_in part) slots
  ends_there slots first_out =
      with_end (ends_from (kept_in part) (turn_counts (kinds part.plan) (service_packets part)) (leaves_slots part (shorter part.plan accepted)) (cycles_of part * part.plan.cycle)
      (keeps_none_from part (shorter part.plan accepted)))
    where
      with_end : (end : ℕ) × IsSlotCount (slot_in part) end → IsSlotCount (slot_in part) slots
      with_end (end, count) = subst (IsSlotCount (slot_in part)) same count
        where
          its : AreFirstOutIn part end
          its = out_there end count

          same : end ≡ slots
          same = by_order (cases_lt end slots) (cases_lt slots end)
            where
              by_order : (end < slots) ⊎ (slots ≤ end) → (slots < end) ⊎ (end ≤ slots) → end ≡ slots
              by_order (inl less) other = absurd (first_out.first end less its.out)
              by_order (inr le) (inl less) = absurd (its.first slots less first_out.out)
              by_order (inr le) (inr le2) = omega (arith, le, le2)
