-- A transmission ends where all packets are out.
use Rattle.std.proofs.Common.{◌≡◌, ℕ, suc, ◌+◌, ◌-◌, ◌<◌, ◌≤◌, Bool, true, false, cond, ltb, List, [], ◌∷◌, length, refl, sym, ap, ◌∙◌, arith, Some, None}
use Rattle.std.specs.Prelude.{find, slice_index}
use Rattle.std.proofs.lemmas.List.{ext_get_or}
use Rattle.stream_spec.specs.Slots.{is_of_service, asked, Turns, has_left, next_service, turns_at, kept_for_table, IsSlotCount}
use Rattle.stream_spec.proofs.Over.{over_from}
use Rattle.stream_law.specs.Words.{carried_in, AreFirstOut}
use Rattle.stream_law.proofs.Turns.{within_at, turns_pass}
use Rattle.stream_law.proofs.Ends.{all_out, table_keeps_none, table_leaves_slots}

none_found : (p : ℕ → Bool) → ((k : ℕ) → p k ≡ false) → (xs : List ℕ) → find p xs ≡ None
none_found p none [] = refl
none_found p none (x ∷ xs) = ap (λ (b : Bool). cond b (Some x) (find p xs)) (none x) ∙ none_found p none xs

module _ (cycle table : ℕ) (packets : List ℕ) (slots : ℕ) where
  abbrev turns : ℕ → Turns
  turns s = turns_at (kept_for_table cycle table) packets s

  -- where all are out, no service has its turn
  none_left : (s : ℕ) → (turns s).sent ≡ packets → next_service packets (turns s) ≡ None
  none_left s out = none_found (has_left packets (turns s).sent) (λ k. ap (λ (sent : List ℕ). has_left packets sent k) out ∙ not_less (slice_index packets k)) (asked (length packets) (turns s).first)
    where
      not_less : (n : ℕ) → ltb n n ≡ false
      not_less n = grind arith

  over : (s : ℕ) → (turns s).sent ≡ packets → (later : ℕ) → s ≤ later → is_of_service (carried_in cycle table packets later) ≡ false
  over s out later le = over_from (kept_for_table cycle table) packets (table_keeps_none cycle table) s (none_left s out) later le

  pub ends_there : AreFirstOut cycle table packets slots → IsSlotCount (carried_in cycle table packets) slots
  ends_there it = record { last = last; over = over slots it.out }
    where
      last : (s : ℕ) → slots ≡ s + 1 → is_of_service (carried_in cycle table packets s) ≡ true
      last s e = by_slot (is_of_service (carried_in cycle table packets s)) refl
        where
          by_slot : (is : Bool) → is_of_service (carried_in cycle table packets s) ≡ is → is_of_service (carried_in cycle table packets s) ≡ true
          by_slot true e2 = e2
          by_slot false e2 =
              let next : slots ≡ suc s = omega (arith, e) in
              let same : turns slots ≡ turns s = ap turns next ∙ turns_pass (kept_for_table cycle table) packets s e2 in
              absurd (it.first s (omega (arith, e)) (sym (ap (λ (t : Turns). t.sent) same) ∙ it.out))

  pub out_there : table < cycle → IsSlotCount (carried_in cycle table packets) slots → AreFirstOut cycle table packets slots
  out_there less count = record {
    out = ext_get_or 0 (turns slots).sent packets (within_at (kept_for_table cycle table) packets slots).size
        (λ k below. all_out (kept_for_table cycle table) packets (table_leaves_slots cycle table less) slots count k (omega (arith, below, (within_at (kept_for_table cycle table) packets slots).size)));
    first = λ s earlier out.
        let none : is_of_service (carried_in cycle table packets (slots - 1)) ≡ false = over s out (slots - 1) (omega (arith, earlier)) in
        let last : is_of_service (carried_in cycle table packets (slots - 1)) ≡ true = count.last (slots - 1) (omega (arith, earlier)) in
        absurd (cc);
  }
