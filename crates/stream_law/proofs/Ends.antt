-- A transmission ends, in one slot, and then all packets are out.
use Rattle.std.proofs.Common.{◌≡◌, ℕ, zero, suc, ◌+◌, ◌-◌, ◌*◌, ◌%◌, ◌<◌, ◌≤◌, Bool, true, false, cond, ltb, List, [], ◌∷◌, length, set, refl, sym, ap, ◌∙◌, arith, Option, Some, None}
use Rattle.std.specs.Prelude.{slice_index}
use Rattle.std.specs.Option.{unwrap_or}
use Rattle.std.proofs.lemmas.Nat.{mod-mul-add}
use Rattle.std.proofs.Math.Nat.{le-mul_of_pos_right}
use Rattle.stream_spec.specs.Slots.{Slot, of_table, is_of_service, Turns, next_service, served, turns_at, slot_of_service, slot_at, kept_for_table, IsSlotCount}
use Rattle.stream_spec.proofs.Over.{KeepsNone, KeepsNoneFrom, turns_kept, turns_served, over_later}
use Rattle.stream_law.proofs.Next.{has_turn, none_has_turn, false_ltb}
use Rattle.stream_law.proofs.Turns.{within_at, turns_pass}

-- after each slot is one that is not kept
abbrev pub LeavesSlots : (ℕ → Option Slot) → Type 0
LeavesSlots kept = (s : ℕ) → (free : ℕ) × (s ≤ free) × (kept free ≡ None)

-- Sums.

abbrev pub total : List ℕ → ℕ
total [] = 0
total (x ∷ xs) = x + total xs

total_set : (xs : List ℕ) (k : ℕ) → k < length xs → total (set xs k (slice_index xs k + 1)) ≡ total xs + 1
total_set [] k less = absurd (omega arith)
total_set (x ∷ xs) zero less = first x (total xs)
  where
    first : (a b : ℕ) → a + 1 + b ≡ a + b + 1
    first a b = omega arith
total_set (x ∷ xs) (suc k) less = behind x (total (set xs k (slice_index xs k + 1))) (total xs) (total_set xs k (omega arith))
  where
    behind : (a b c : ℕ) → b ≡ c + 1 → a + b ≡ a + c + 1
    behind a b c e = omega (arith, e)

total_le : (xs ys : List ℕ) → length xs ≡ length ys → ((k : ℕ) → k < length ys → slice_index xs k ≤ slice_index ys k) → total xs ≤ total ys
total_le [] [] size most = omega arith
total_le [] (y ∷ ys) size most = absurd (omega (arith, size))
total_le (x ∷ xs) [] size most = absurd (omega (arith, size))
total_le (x ∷ xs) (y ∷ ys) size most =
    both x y (total xs) (total ys) (most 0 (omega arith)) (total_le xs ys (omega (arith, size)) (λ k less. most (suc k) (omega arith)))
  where
    both : (a b c d : ℕ) → a ≤ b → c ≤ d → a + c ≤ b + d
    both a b c d le le2 = omega (arith, le, le2)

-- The last slot.

last_slot : (slot : ℕ → Slot) (s : ℕ) → ((later : ℕ) → s ≤ later → is_of_service (slot later) ≡ false) → (slots : ℕ) × IsSlotCount slot slots
last_slot slot zero over = (0, record { last = λ s e. absurd (omega (arith, e)); over = over })
last_slot slot (suc s) over = by_slot (is_of_service (slot s)) refl (last_slot slot s)
  where
    at_or_behind : is_of_service (slot s) ≡ false → (later : ℕ) → s ≤ later → (behind : Bool) → ltb s later ≡ behind → is_of_service (slot later) ≡ false
    at_or_behind none later le true is = over later (grind (arith, is))
    at_or_behind none later le false is =
        let same : later ≡ s = omega (arith, le, false_ltb s later is) in
        ap (λ (i : ℕ). is_of_service (slot i)) same ∙ none

    by_slot : (is : Bool) → is_of_service (slot s) ≡ is
        → (((later : ℕ) → s ≤ later → is_of_service (slot later) ≡ false) → (slots : ℕ) × IsSlotCount slot slots)
        → (slots : ℕ) × IsSlotCount slot slots
    by_slot true e before = (
      suc s,
      record {
        last = λ s2 e2. let same : s2 ≡ s = omega (arith, e2) in ap (λ (i : ℕ). is_of_service (slot i)) same ∙ e;
        over = over;
      },
    )
    by_slot false e before = before (λ later le. at_or_behind e later le (ltb s later) refl)

not_two : (slot : ℕ → Slot) (a b : ℕ) → a < b → IsSlotCount slot a → IsSlotCount slot b → ⊥
not_two slot a b less first second =
    let is : is_of_service (slot (b - 1)) ≡ true = second.last (b - 1) (omega (arith, less)) in
    let none : is_of_service (slot (b - 1)) ≡ false = first.over (b - 1) (omega (arith, less)) in
    absurd (cc)

pub one_count : (slot : ℕ → Slot) (a b : ℕ) → IsSlotCount slot a → IsSlotCount slot b → a ≡ b
one_count slot a b first second = by_order (ltb a b) refl (ltb b a) refl
  where
    by_order : (less : Bool) → ltb a b ≡ less → (more : Bool) → ltb b a ≡ more → a ≡ b
    by_order true e more e2 = absurd (not_two slot a b (grind (arith, e)) first second)
    by_order false e true e2 = absurd (not_two slot b a (grind (arith, e2)) second first)
    by_order false e false e2 = omega (arith, false_ltb a b e, false_ltb b a e2)

module _ (kept : ℕ → Option Slot) (packets : List ℕ) (leaves : LeavesSlots kept) where
  abbrev turns : ℕ → Turns
  turns s = turns_at kept packets s

  abbrev pub out : ℕ → ℕ
  out s = total (turns s).sent

  pub most : (s : ℕ) → out s ≤ total packets
  most s = total_le (turns s).sent packets (within_at kept packets s).size (within_at kept packets s).most

  -- where a service has its turn, one packet more goes out
  pub goes_out : (s k : ℕ) → kept s ≡ None → next_service packets (turns s) ≡ Some k → out (suc s) ≡ out s + 1
  goes_out s k none turn =
      ap (λ (t : Turns). total t.sent) (turns_served kept packets s none) ∙ ap (λ (o : Option ℕ). total (served (turns s) o).sent) turn
      ∙ total_set (turns s).sent k (omega (arith, (within_at kept packets s).size, (has_turn packets (turns s) k (within_at kept packets s).first turn).1))

  -- at the next slot that is not kept
  one_out : (d s free k : ℕ) → free ≡ s + d → kept free ≡ None → next_service packets (turns s) ≡ Some k → (later : ℕ) × (out later ≡ out s + 1)
  one_out zero s free k place none turn =
      let here : s ≡ free = omega (arith, place) in (suc s, goes_out s k (ap kept here ∙ none) turn)
  one_out (suc d) s free k place none turn = by_kept (kept s) refl (one_out d (suc s) free k (omega (arith, place)) none)
    where
      by_kept : (is : Option Slot) → kept s ≡ is → (next_service packets (turns (suc s)) ≡ Some k → (later : ℕ) × (out later ≡ out (suc s) + 1))
          → (later : ℕ) × (out later ≡ out s + 1)
      by_kept None e later = (suc s, goes_out s k e turn)
      by_kept (Some slot) e later =
          let found : (later : ℕ) × (out later ≡ out (suc s) + 1) = later (ap (λ (t : Turns). next_service packets t) (turns_kept kept packets s slot e) ∙ turn) in
          (found.0, found.1 ∙ ap (λ (t : Turns). total t.sent + 1) (turns_kept kept packets s slot e))

  next_out : (s k : ℕ) → next_service packets (turns s) ≡ Some k → (later : ℕ) × (out later ≡ out s + 1)
  next_out s k turn =
      let free : (free : ℕ) × (s ≤ free) × (kept free ≡ None) = leaves s in
      one_out (free.0 - s) s free.0 k (omega (arith, free.1)) free.2 turn

  -- so there comes a slot from which on no service has packets left
  none_left : (m s : ℕ) → total packets ≤ m + out s → (end : ℕ) × (next_service packets (turns end) ≡ None)
  none_left zero s enough = by_turn (next_service packets (turns s)) refl
    where
      by_turn : (next : Option ℕ) → next_service packets (turns s) ≡ next → (end : ℕ) × (next_service packets (turns end) ≡ None)
      by_turn None e = (s, e)
      by_turn (Some k) e =
          let later : (later : ℕ) × (out later ≡ out s + 1) = next_out s k e in
          absurd (omega (arith, enough, later.1, most later.0))
  none_left (suc m) s enough = by_turn (next_service packets (turns s)) refl (λ later more. none_left m later more)
    where
      by_turn : (next : Option ℕ) → next_service packets (turns s) ≡ next
          → ((later : ℕ) → total packets ≤ m + out later → (end : ℕ) × (next_service packets (turns end) ≡ None))
          → (end : ℕ) × (next_service packets (turns end) ≡ None)
      by_turn None e behind = (s, e)
      by_turn (Some k) e behind =
          let later : (later : ℕ) × (out later ≡ out s + 1) = next_out s k e in
          behind later.0 (omega (arith, enough, later.1))

  -- where from some slot on none is kept for a service
  pub ends_from : (from : ℕ) → KeepsNoneFrom from kept → (slots : ℕ) × IsSlotCount (slot_at kept packets) slots
  ends_from from keeps =
      let end : (end : ℕ) × (next_service packets (turns end) ≡ None) = none_left (total packets) 0 (omega arith) in
      last_slot (slot_at kept packets) (end.0 + from)
      (λ later le. over_later kept packets from keeps end.0 end.1 later (omega (arith, le)) (omega (arith, le)))

  pub ends : KeepsNone kept → (slots : ℕ) × IsSlotCount (slot_at kept packets) slots
  ends keeps = ends_from 0 (λ s slot from. keeps s slot)

  -- after the last slot all packets are out
  same_turns : (slots : ℕ) → IsSlotCount (slot_at kept packets) slots → (d later : ℕ) → later ≡ slots + d → turns later ≡ turns slots
  same_turns slots count zero later e = let same : later ≡ slots = omega (arith, e) in ap turns same
  same_turns slots count (suc d) zero e = absurd (omega (arith, e))
  same_turns slots count (suc d) (suc later) e =
      turns_pass kept packets later (count.over later (omega (arith, e))) ∙ same_turns slots count d later (omega (arith, e))

  pub all_out : (slots : ℕ) → IsSlotCount (slot_at kept packets) slots → (k : ℕ) → k < length packets → slice_index (turns slots).sent k ≡ slice_index packets k
  all_out slots count k less =
      let free : (free : ℕ) × (slots ≤ free) × (kept free ≡ None) = leaves slots in
      let same : turns free.0 ≡ turns slots = same_turns slots count (free.0 - slots) free.0 (omega (arith, free.1)) in
      let none : next_service packets (turns free.0) ≡ None = is_none free.0 free.2 (count.over free.0 free.1) in
      let enough : slice_index packets k ≤ slice_index (turns free.0).sent k
      = none_has_turn packets (turns free.0) k (within_at kept packets free.0).first none less in
      let as_last : slice_index (turns free.0).sent k ≡ slice_index (turns slots).sent k = ap (λ (t : Turns). slice_index t.sent k) same in
      omega (arith, enough, as_last, (within_at kept packets slots).most k less)
    where
      by_turn : (s : ℕ) (next : Option ℕ) → is_of_service (slot_of_service (turns s) next) ≡ false → next ≡ None
      by_turn s None e = refl
      by_turn s (Some j) e = absurd (cc)

      is_none : (s : ℕ) → kept s ≡ None → is_of_service (slot_at kept packets s) ≡ false → next_service packets (turns s) ≡ None
      is_none s none e =
          by_turn s (next_service packets (turns s)) (sym (ap (λ (is : Option Slot). is_of_service (unwrap_or is (slot_of_service (turns s) (next_service packets (turns s))))) none) ∙ e)

-- The INT's slots.

pub table_keeps_none : (cycle table : ℕ) → KeepsNone (kept_for_table cycle table)
table_keeps_none cycle table s slot e = by_test (ltb (s % cycle) table) e
  where
    by_test : (early : Bool) → cond early (Some (of_table (s % cycle))) None ≡ Some slot → is_of_service slot ≡ false
    by_test true kept = let same : of_table (s % cycle) ≡ slot = cc in rw (← same) refl
    by_test false kept = absurd (cc)

pub table_leaves_slots : (cycle table : ℕ) → table < cycle → LeavesSlots (kept_for_table cycle table)
table_leaves_slots cycle table less s = (
  s * cycle + table,
  omega (arith, le-mul_of_pos_right {m = cycle} s (omega (arith, less))),
  by_place (mod-mul-add s cycle table less),
)
  where
    by_place : (s * cycle + table) % cycle ≡ table → kept_for_table cycle table (s * cycle + table) ≡ None
    by_place at =
        let late : ltb ((s * cycle + table) % cycle) table ≡ false = grind (arith, at) in
        ap (λ (b : Bool). cond b (Some (of_table ((s * cycle + table) % cycle))) None) late
