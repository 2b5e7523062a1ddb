-- The records up to the end of a cycle.
use Rattle.std.proofs.Common.{◌≡◌, ◌⊎◌, inl, inr, ℕ, ◌+◌, ◌-◌, ◌*◌, ◌/◌, ◌%◌, ◌<◌, ◌≤◌, Bool, true, false, List, ◌++◌, length, take, drop, refl, sym, ap, ◌∙◌, arith, append_assoc, subst, Option, None}
use Rattle.std.specs.Io.KnownBytes.{Appends}
use Rattle.std.proofs.lemmas.Bool.{cases_lt}
use Rattle.std.proofs.lemmas.Nat.{mod-mul-add, div-mul-add, div-add-mod'}
use Rattle.std.proofs.lemmas.List.{take_at, take-append-drop}
use Rattle.std.proofs.Math.Nat.{add-mul, mod-lt}
use Rattle.wire_spec.specs.Lists.{joined}
use Rattle.plan_spec.specs.Plan.{PlanFields}
use Rattle.plan_spec.specs.Wholes.{is_whole_plan}
use Rattle.stream_spec.specs.Parts.{PartFields, records_of_slots}
use Rattle.stream_spec.specs.Stream.{whole_cycles}
use Rattle.ts_mux.specs.Services.{Serving, turn_of}
use Rattle.ts_mux.specs.Slots.{IsPartOf, IsOver, StandBefore, slots_with}
use Rattle.ts_mux.specs.declared.int_packets.IntPackets.{IntPackets}
use Rattle.ts_mux.proofs.Signalled.{cycle_some, part_accepted, cycle_is}
use Rattle.ts_mux.proofs.Ended.{idle, over_left, more_records}

-- The end of the cycle of a slot.

module _ (cycle : ℕ) (some : 0 < cycle) where
  pub end_from : (slot : ℕ) → slot ≤ whole_cycles cycle slot
  end_from slot = omega (arith, some, div-add-mod' (slot + cycle - 1) cycle, mod-lt (slot + cycle - 1) {m = cycle} some)

  pub end_most : (slot : ℕ) → whole_cycles cycle slot < slot + cycle
  end_most slot = omega (arith, some, div-add-mod' (slot + cycle - 1) cycle)

  pub is_end : (n : ℕ) → (n * cycle) % cycle ≡ 0
  is_end n = let same : n * cycle ≡ n * cycle + 0 = omega arith in ap (λ (m : ℕ). m % cycle) same ∙ mod-mul-add n cycle 0 some

  -- a slot that begins no cycle stands before the end
  pub goes_up : (from slot : ℕ) → slot ≤ whole_cycles cycle from → (slot % cycle ≡ 0 → ⊥) → slot + 1 ≤ whole_cycles cycle from
  goes_up from slot le behind = by_order (cases_lt slot (whole_cycles cycle from))
    where
      by_order : (slot < whole_cycles cycle from) ⊎ (whole_cycles cycle from ≤ slot) → slot + 1 ≤ whole_cycles cycle from
      by_order (inl less) = omega (arith, less)
      by_order (inr more) =
          let same : slot ≡ whole_cycles cycle from = omega (arith, le, more) in
          absurd (behind (ap (λ (n : ℕ). n % cycle) same ∙ is_end ((from + cycle - 1) / cycle)))

  -- one that begins a cycle is the end
  pub is_there : (from slot : ℕ) → from ≤ slot → slot ≤ whole_cycles cycle from → slot % cycle ≡ 0 → slot ≡ whole_cycles cycle from
  is_there from slot ge le begins = by_order (cases_lt (slot / cycle) ((from + cycle - 1) / cycle))
    where
      at : slot ≡ slot / cycle * cycle
      at = omega (arith, div-add-mod' slot cycle, begins)

      later : (q w : ℕ) → q < w → q * cycle + cycle ≤ w * cycle
      later q w less =
          let same : w ≡ q + 1 + (w - (q + 1)) = omega (arith, less) in
          omega (arith, ap (λ (n : ℕ). n * cycle) same, add-mul (q + 1) (w - (q + 1)) cycle, add-mul q 1 cycle)

      no_less : (q w : ℕ) → w ≤ q → w * cycle ≤ q * cycle
      no_less q w more =
          let same : q ≡ w + (q - w) = omega (arith, more) in
          omega (arith, ap (λ (n : ℕ). n * cycle) same, add-mul w (q - w) cycle)

      by_order : (slot / cycle < (from + cycle - 1) / cycle) ⊎ ((from + cycle - 1) / cycle ≤ slot / cycle) → slot ≡ whole_cycles cycle from
      by_order (inl less) = absurd (omega (arith, at, later (slot / cycle) ((from + cycle - 1) / cycle) less, end_most from, ge))
      by_order (inr more) = omega (arith, at, no_less (slot / cycle) ((from + cycle - 1) / cycle) more, le)

  -- before a place in a part whole cycles stand
  pub whole_behind : (before place : ℕ) → before % cycle ≡ 0 → whole_cycles cycle (before + place) ≡ before + whole_cycles cycle place
  whole_behind before place begins =
      let count : (before + place + cycle - 1) / cycle ≡ before / cycle + (place + cycle - 1) / cycle
      = ap (λ (n : ℕ). n / cycle) split ∙ div-mul-add (before / cycle + (place + cycle - 1) / cycle) cycle ((place + cycle - 1) % cycle) (mod-lt (place + cycle - 1) {m = cycle} some) in
      ap (λ (n : ℕ). n * cycle) count ∙ omega (arith, add-mul (before / cycle) ((place + cycle - 1) / cycle) cycle, div-add-mod' before cycle, begins)
    where
      split : before + place + cycle - 1 ≡ (before / cycle + (place + cycle - 1) / cycle) * cycle + (place + cycle - 1) % cycle
      split = omega (arith, some, div-add-mod' before cycle, begins, div-add-mod' (place + cycle - 1) cycle, add-mul (before / cycle) ((place + cycle - 1) / cycle) cycle)

-- Slots that are filled.

module _ (plan : PlanFields) (whole : is_whole_plan plan ≡ true) (part : PartFields) where
  -- no service has its turn after the end
  pub none_turns : (from place of_stream : ℕ) (serving : Serving) (signals : IntPackets) → StandBefore plan part place of_stream serving signals → from ≤ place → IsOver part from → turn_of serving ≡ None
  none_turns from place of_stream serving signals stand le over =
      let accepted = part_accepted plan whole part stand.of_plan in
      idle part accepted stand.of_plan.fits place serving stand.services (over_left part accepted stand.of_plan.fits place serving stand.services from le over)

  pub fills_one : (place after from slot : ℕ) → place + (slot - from) ≡ after → from ≤ slot → place + (slot + 1 - from) ≡ after + 1
  fills_one place after from slot is le = omega (arith, is, le)

  -- where the slots end
  pub filled_to : (place from slot : ℕ) (serving : Serving) (signals : IntPackets) → StandBefore plan part place from serving signals → from ≤ slot → slot ≡ whole_cycles plan.cycle from
      → place + (slot - from) ≡ whole_cycles part.plan.cycle place
  filled_to place from slot serving signals stand le is =
      let cycle : part.plan.cycle ≡ plan.cycle = cycle_is plan whole part stand.of_plan in
      let some : 0 < plan.cycle = omega (arith, cycle, cycle_some part.plan (part_accepted plan whole part stand.of_plan)) in
      let end : whole_cycles plan.cycle from ≡ part.slots_before + whole_cycles plan.cycle place
      = ap (whole_cycles plan.cycle) stand.place ∙ whole_behind plan.cycle some part.slots_before place stand.of_plan.whole in
      omega (arith, is, end, stand.place, end_from plan.cycle some place) ∙ ap (λ (n : ℕ). whole_cycles n place) (sym cycle)

  pub filled_below : (place from slot : ℕ) (serving : Serving) (signals : IntPackets) → StandBefore plan part place from serving signals → from ≤ slot → slot ≤ whole_cycles plan.cycle from
      → place + (slot - from) ≤ whole_cycles part.plan.cycle place
  filled_below place from slot serving signals stand le most =
      let cycle : part.plan.cycle ≡ plan.cycle = cycle_is plan whole part stand.of_plan in
      let some : 0 < plan.cycle = omega (arith, cycle, cycle_some part.plan (part_accepted plan whole part stand.of_plan)) in
      let end : whole_cycles plan.cycle from ≡ part.slots_before + whole_cycles plan.cycle place
      = ap (whole_cycles plan.cycle) stand.place ∙ whole_behind plan.cycle some part.slots_before place stand.of_plan.whole in
      omega (arith, most, end, stand.place, le, ap (λ (n : ℕ). whole_cycles n place) cycle)

-- a prefix of fewer records is one of more
pub prefix_more : (part : PartFields) (slots more : ℕ) (old new : Option (List ℕ)) (before : List ℕ) → slots ≤ more → (n : ℕ) × Appends old new (take n (before ++ joined (records_of_slots part slots)))
    → (m : ℕ) × Appends old new (take m (before ++ joined (records_of_slots part more)))
prefix_more part slots more old new before le some = (length piece, subst (Appends old new) (sym (ap (take (length piece)) whole ∙ take_at piece behind (length piece) refl)) some.1)
  where
    all : List ℕ
    all = before ++ joined (records_of_slots part slots)

    piece : List ℕ
    piece = take some.0 all

    rest : (rest : List ℕ) × (joined (records_of_slots part (slots + (more - slots))) ≡ joined (records_of_slots part slots) ++ rest)
    rest = more_records part (more - slots) slots

    behind : List ℕ
    behind = drop some.0 all ++ rest.0

    whole : before ++ joined (records_of_slots part more) ≡ piece ++ behind
    whole =
        let place : more ≡ slots + (more - slots) = omega (arith, le) in
        ap (λ (n : ℕ). before ++ joined (records_of_slots part n)) place ∙ ap (λ (t : List ℕ). before ++ t) rest.1
        ∙ sym (append_assoc before (joined (records_of_slots part slots)) rest.0)
        ∙ ap (λ (t : List ℕ). t ++ rest.0) (sym (take-append-drop some.0 all))
        ∙ append_assoc piece (drop some.0 all) rest.0

-- a part has all slots up to the last packet of its services
pub slots_more : (plan : PlanFields) (whole : is_whole_plan plan ≡ true) (part : PartFields) → IsPartOf plan part → (fills : Bool) (least : ℕ) → least ≤ slots_with fills part.plan.cycle least
slots_more plan whole part is true least = end_from part.plan.cycle (cycle_some part.plan (part_accepted plan whole part is)) least
slots_more plan whole part is false least = omega arith
