-- Which service has its turn.
use Rattle.std.proofs.Common.{◌≡◌, ℕ, zero, suc, ◌+◌, ◌-◌, ◌<◌, ◌≤◌, Bool, true, false, cond, ltb, List, length, refl, sym, ap, ◌∙◌, arith, Option, Some, None}
use Rattle.std.specs.Prelude.{find, slice_index}
use Rattle.std.specs.List.{range_with_len}
use Rattle.std.specs.Option.{option_or}
use Rattle.std.proofs.lemmas.List.Folds.{find-append}
use Rattle.stream_spec.specs.Slots.{asked, Turns, has_left, next_service}

pub true_ltb : (a b : ℕ) → ltb a b ≡ true → a < b
true_ltb a b e = grind (arith, e)

pub false_ltb : (a b : ℕ) → ltb a b ≡ false → b ≤ a
false_ltb a b e = grind (arith, e)

module _ (p : ℕ → Bool) where
  -- the first of some numbers is one of them
  found_in : (a n k : ℕ) → find p (range_with_len a n) ≡ Some k → (p k ≡ true) × (k < a + n)
  found_in a zero k e = absurd (cc)
  found_in a (suc n) k e = by_first (p a) refl e (found_in (a + 1) n k)
    where
      by_first : (first : Bool) → p a ≡ first → cond first (Some a) (find p (range_with_len (a + 1) n)) ≡ Some k
          → (find p (range_with_len (a + 1) n) ≡ Some k → (p k ≡ true) × (k < a + 1 + n)) → (p k ≡ true) × (k < a + suc n)
      by_first true is e2 behind = let same : a ≡ k = cc in (ap p (sym same) ∙ is, omega (arith, same))
      by_first false is e2 behind = let later : (p k ≡ true) × (k < a + 1 + n) = behind e2 in (later.0, omega (arith, later.1))

  -- where there is none, none of them is it
  none_in : (a n : ℕ) → find p (range_with_len a n) ≡ None → (k : ℕ) → a ≤ k → k < a + n → p k ≡ false
  none_in a zero e k from below = absurd (omega (arith, from, below))
  none_in a (suc n) e k from below = by_first (p a) refl e (λ none later. none_in (a + 1) n none k later (omega (arith, below)))
    where
      by_place : p a ≡ false → (k2 : ℕ) → k ≡ a + k2 → (a + 1 ≤ k → p k ≡ false) → p k ≡ false
      by_place is zero place behind = let same : k ≡ a = omega (arith, place) in ap p same ∙ is
      by_place is (suc k2) place behind = behind (omega (arith, place))

      by_first : (first : Bool) → p a ≡ first → cond first (Some a) (find p (range_with_len (a + 1) n)) ≡ None
          → (find p (range_with_len (a + 1) n) ≡ None → a + 1 ≤ k → p k ≡ false) → p k ≡ false
      by_first true is e2 behind = absurd (cc)
      by_first false is e2 behind = by_place is (k - a) (omega (arith, from)) (behind e2)

  -- the same of the order in which services are asked
  found_asked : (n first k : ℕ) → first ≤ n → find p (asked n first) ≡ Some k → (p k ≡ true) × (k < n)
  found_asked n first k le e =
      by_part (find p (range_with_len first (n - first))) refl (sym (find-append p (range_with_len first (n - first)) (range_with_len 0 first)) ∙ e)
    where
      by_part : (part : Option ℕ) → find p (range_with_len first (n - first)) ≡ part → option_or part (find p (range_with_len 0 first)) ≡ Some k → (p k ≡ true) × (k < n)
      by_part None is e2 = let found : (p k ≡ true) × (k < 0 + first) = found_in 0 first k e2 in (found.0, omega (arith, found.1, le))
      by_part (Some j) is e2 =
          let found : (p k ≡ true) × (k < first + (n - first)) = found_in first (n - first) k (is ∙ e2) in
          (found.0, omega (arith, found.1, le))

  none_asked : (n first : ℕ) → first ≤ n → find p (asked n first) ≡ None → (k : ℕ) → k < n → p k ≡ false
  none_asked n first le e k below =
      by_part (find p (range_with_len first (n - first))) refl (sym (find-append p (range_with_len first (n - first)) (range_with_len 0 first)) ∙ e)
    where
      by_place : (early : Bool) → ltb k first ≡ early → find p (range_with_len first (n - first)) ≡ None → find p (range_with_len 0 first) ≡ None → p k ≡ false
      by_place true is none none2 = none_in 0 first none2 k (omega arith) (omega (arith, true_ltb k first is))
      by_place false is none none2 = none_in first (n - first) none k (false_ltb k first is) (omega (arith, le, below))

      by_part : (part : Option ℕ) → find p (range_with_len first (n - first)) ≡ part → option_or part (find p (range_with_len 0 first)) ≡ None → p k ≡ false
      by_part None is e2 = by_place (ltb k first) refl is e2
      by_part (Some j) is e2 = absurd (cc)

-- the service that has its turn has packets left
pub has_turn : (packets : List ℕ) (turns : Turns) (k : ℕ) → turns.first ≤ length packets → next_service packets turns ≡ Some k
    → (slice_index turns.sent k < slice_index packets k) × (k < length packets)
has_turn packets turns k le e =
    let found : (has_left packets turns.sent k ≡ true) × (k < length packets) = found_asked (has_left packets turns.sent) (length packets) turns.first k le e in
    (true_ltb (slice_index turns.sent k) (slice_index packets k) found.0, found.1)

-- where none has its turn, all packets are out
pub none_has_turn : (packets : List ℕ) (turns : Turns) (k : ℕ) → turns.first ≤ length packets → next_service packets turns ≡ None → k < length packets
    → slice_index packets k ≤ slice_index turns.sent k
none_has_turn packets turns k le e below =
    false_ltb (slice_index turns.sent k) (slice_index packets k) (none_asked (has_left packets turns.sent) (length packets) turns.first le e k below)
