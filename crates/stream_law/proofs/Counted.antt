-- How many slots a transmission has at most.
use Rattle.std.proofs.Common.{◌≡◌, ◌⊎◌, inl, inr, ℕ, zero, suc, ◌+◌, ◌-◌, ◌*◌, ◌/◌, ◌%◌, ◌<◌, ◌≤◌, true, false, List, refl, ap, ◌∙◌, arith, Option, Some, None}
use Rattle.std.proofs.lemmas.Bool.{cases_lt}
use Rattle.std.proofs.lemmas.Nat.{div-add-mod', le-div, mul-le}
use Rattle.std.proofs.Math.Nat.{add-mul, mul-add, mod-lt}
use Rattle.stream_spec.specs.Slots.{Slot, is_of_service, Turns, next_service, turns_at, slot_at, IsSlotCount}
use Rattle.stream_spec.proofs.Over.{KeepsNoneFrom, turns_kept, over_later}
use Rattle.stream_law.proofs.Ends.{LeavesSlots, total, most, goes_out}

-- After so many cycles all slots but the INT's are free.
module _ (cycle table : ℕ) (less : table < cycle) (kept : ℕ → Option Slot) (packets : List ℕ) (cycles : ℕ) (leaves : LeavesSlots kept)
    (keeps : KeepsNoneFrom (cycles * cycle) kept) (free_at : (c o : ℕ) → cycles ≤ c → table ≤ o → o < cycle → kept (c * cycle + o) ≡ None)
    (slots : ℕ) (count : IsSlotCount (slot_at kept packets) slots) where
  abbrev turns : ℕ → Turns
  turns s = turns_at kept packets s

  abbrev sent : ℕ → ℕ
  sent s = total (turns s).sent

  -- before the last slot some service has its turn
  someone : (s : ℕ) → cycles * cycle ≤ s → s < slots → (next : Option ℕ) → next_service packets (turns s) ≡ next → (k : ℕ) × (next_service packets (turns s) ≡ Some k)
  someone s late before (Some k) e = (k, e)
  someone s late before None e =
      let none : is_of_service (slot_at kept packets (slots - 1)) ≡ false
      = over_later kept packets (cycles * cycle) keeps s e (slots - 1) (omega (arith, before)) (omega (arith, before, late)) in
      let last : is_of_service (slot_at kept packets (slots - 1)) ≡ true = count.last (slots - 1) (omega (arith, before)) in
      absurd (cc)

  -- so that each slot after the INT's carries a packet
  one_more : (s : ℕ) → cycles * cycle ≤ s → s < slots → kept s ≡ None → sent (suc s) ≡ sent s + 1
  one_more s late before free =
      let turn : (k : ℕ) × (next_service packets (turns s) ≡ Some k) = someone s late before (next_service packets (turns s)) refl in
      goes_out kept packets leaves s turn.0 free turn.1

  not_fewer : (s : ℕ) → cycles * cycle ≤ s → s < slots → sent s ≤ sent (suc s)
  not_fewer s late before = by_kept (kept s) refl
    where
      by_kept : (is : Option Slot) → kept s ≡ is → sent s ≤ sent (suc s)
      by_kept None e = omega (arith, one_more s late before e)
      by_kept (Some slot) e = omega (arith, ap (λ (t : Turns). total t.sent) (turns_kept kept packets s slot e))

  -- the slots of the INT in a cycle, and those after them
  first_ones : (m at : ℕ) → cycles * cycle ≤ at → m + at ≤ slots → sent at ≤ sent (m + at)
  first_ones zero at late le = let same : 0 + at ≡ at = omega arith in omega (arith, ap sent same)
  first_ones (suc m) at late le =
      let next : suc m + at ≡ suc (m + at) = omega arith in
      omega (arith, ap sent next, not_fewer (m + at) (omega (arith, late)) (omega (arith, le)), first_ones m at late (omega (arith, le)))

  others : (m c at : ℕ) → cycles ≤ c → cycles * cycle ≤ at → at ≡ c * cycle + table → table + m ≤ cycle → m + at ≤ slots → sent (m + at) ≡ sent at + m
  others zero c at rest late e le before = let same : 0 + at ≡ at = omega arith in omega (arith, ap sent same)
  others (suc m) c at rest late e le before =
      let next : suc m + at ≡ suc (m + at) = omega arith in
      let place : m + at ≡ c * cycle + (table + m) = omega (arith, e) in
      let free : kept (m + at) ≡ None = ap kept place ∙ free_at c (table + m) rest (omega arith) (omega (arith, le)) in
      omega (arith, ap sent next, one_more (m + at) (omega (arith, late)) (omega (arith, before)) free, others m c at rest late e (omega (arith, le)) (omega (arith, before)))

  -- a whole cycle
  in_cycle : (c at : ℕ) → cycles ≤ c → at ≡ c * cycle → cycle + at ≤ slots → sent at + (cycle - table) ≤ sent (cycle + at)
  in_cycle c at rest e le =
      let whole : cycle - table + (table + at) ≡ cycle + at = omega (arith, less) in
      let late : cycles * cycle ≤ at = omega (arith, e, mul-le cycles cycle c cycle rest (omega arith)) in
      omega (
        arith,
        ap sent whole,
        first_ones table at late (omega (arith, le, less)),
        others (cycle - table) c (table + at) rest (omega (arith, late)) (omega (arith, e)) (omega (arith, less)) (omega (arith, le, less)),
      )

  in_cycles : (c : ℕ) → (cycles + c) * cycle ≤ slots → c * (cycle - table) ≤ sent ((cycles + c) * cycle)
  in_cycles zero le = omega arith
  in_cycles (suc c) le =
      let next : (cycles + suc c) * cycle ≡ cycle + (cycles + c) * cycle = more_cycles in
      omega (
        arith,
        ap sent next,
        one_cycle (cycle - table),
        in_cycles c (omega (arith, next, le)),
        in_cycle (cycles + c) ((cycles + c) * cycle) (omega arith) refl (omega (arith, next, le)),
      )
    where
      one_cycle : (n : ℕ) → suc c * n ≡ c * n + n
      one_cycle n = let one : suc c ≡ c + 1 = omega arith in ap (λ (k : ℕ). k * n) one ∙ omega (arith, add-mul c 1 n)

      more_cycles : (cycles + suc c) * cycle ≡ cycle + (cycles + c) * cycle
      more_cycles =
          let one : cycles + suc c ≡ cycles + c + 1 = omega arith in
          ap (λ (k : ℕ). k * cycle) one ∙ omega (arith, add-mul (cycles + c) 1 cycle)

  -- where the INT has at most half of each cycle, there are at most two slots for each packet, one cycle more, and those cycles
  pub slots_most : table + table ≤ cycle → slots ≤ 2 * total packets + cycle + cycles * cycle
  slots_most half = by_place (cases_lt slots (cycles * cycle))
    where
      parts : slots / cycle * cycle + slots % cycle ≡ slots
      parts = div-add-mod' slots cycle

      within : slots % cycle < cycle
      within = mod-lt slots {m = cycle} (omega (arith, less))

      by_rest : (c : ℕ) → slots / cycle ≡ cycles + c → slots ≤ 2 * total packets + cycle + cycles * cycle
      by_rest c e =
          let whole : slots / cycle * cycle ≡ (cycles + c) * cycle = ap (λ (n : ℕ). n * cycle) e in
          let sum_of : (cycles + c) * cycle ≡ cycles * cycle + c * cycle = add-mul cycles c cycle in
          let twice : c * cycle ≤ c * (cycle - table + (cycle - table)) = mul-le c cycle c (cycle - table + (cycle - table)) (omega arith) (omega (arith, half)) in
          omega (
            arith,
            parts,
            within,
            whole,
            sum_of,
            twice,
            mul-add c (cycle - table) (cycle - table),
            in_cycles c (omega (arith, parts, whole)),
            most kept packets leaves ((cycles + c) * cycle),
          )

      by_place : (slots < cycles * cycle) ⊎ (cycles * cycle ≤ slots) → slots ≤ 2 * total packets + cycle + cycles * cycle
      by_place (inl few) = omega (arith, few)
      by_place (inr many) =
          let enough : cycles ≤ slots / cycle = le-div cycles slots cycle (omega (arith, less)) many in
          by_rest (slots / cycle - cycles) (omega (arith, enough))
