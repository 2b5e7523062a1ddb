-- The bursts of several parts are timed together.
use Rattle.std.proofs.Common.{◌≡◌, ◌⊎◌, inl, inr, ℕ, zero, suc, ◌+◌, ◌<◌, ◌≤◌, Bool, true, false, ◌||◌, cond, ltb, get_or, List, [], ◌∷◌, ◌++◌, length, refl, sym, ap, ap₂, subst, ◌∙◌, arith, append-nil, Some}
use Rattle.std.specs.Prelude.{flat_map, Contains}
use Rattle.std.specs.List.{range_with_len, slice_get}
use Rattle.slice_spec.specs.Moments.{ten}
use Rattle.slice_spec.specs.Sections.{SectionTime}
use Rattle.slice_spec.specs.Frames.{IsTimed}
use Rattle.slice_spec.specs.Bursts.{Slicing, Burst, times_of, AreInWindows, IsSliceable}
use Rattle.slice_law.specs.Cycles.{bursts_from}
use Rattle.slice_law.proofs.Timed.{timed}
use Rattle.slice_law.proofs.Segments.{timed_front, times_of-append}
use Rattle.slice_law.proofs.Rows.{in_a_row, of_parts}

-- every burst of a list is in a cycle before this one
abbrev pub AllBefore : ℕ → List Burst → Type 0
AllBefore m bursts = (i : ℕ) (b : Burst) → slice_get bursts i ≡ Some b → b.cycle < m

abbrev pub AllFrom : ℕ → List Burst → Type 0
AllFrom m bursts = (i : ℕ) (b : Burst) → slice_get bursts i ≡ Some b → m ≤ b.cycle

same_burst : (x y : Burst) → Some x ≡ Some y → x ≡ y
same_burst x y e = cc

some_bound : (bursts : List Burst) → (m : ℕ) × AllBefore m bursts
some_bound [] = (0, λ i b is. absurd (cc))
some_bound (x ∷ bursts) = with_first (some_bound bursts)
  where
    with_first : (m : ℕ) × AllBefore m bursts → (m : ℕ) × AllBefore m (x ∷ bursts)
    with_first (m, before) = (m + x.cycle + 1, at)
      where
        at : AllBefore (m + x.cycle + 1) (x ∷ bursts)
        at zero b is = omega (arith, ap (λ (y : Burst). y.cycle) (same_burst x b is))
        at (suc i) b is = omega (arith, before i b is)

none_in : (s : Slicing) → AreInWindows s []
none_in s = record { within = λ i place b is there. absurd (cc); later = λ i j a b less is is2. absurd (cc) }

module _ (s : Slicing) (fits : IsSliceable s) where
  -- bursts are timed, whether others follow or not
  pub timed_with : (goes_on : Bool) (bursts : List Burst) → AreInWindows s bursts → IsTimed (ten s.form) (times_of s goes_on bursts)
  timed_with false bursts are = timed s fits bursts are
  timed_with true bursts are = by_bound (some_bound bursts)
    where
      by_bound : (m : ℕ) × AllBefore m bursts → IsTimed (ten s.form) (times_of s true bursts)
      by_bound (m, before) =
          timed_front (times_of s true bursts) (times_of s false (bursts_from m ([] ∷ []))) (ten s.form)
          (subst (IsTimed (ten s.form)) (times_of-append s false bursts (bursts_from m ([] ∷ [])))
          (timed s fits (bursts ++ bursts_from m ([] ∷ [])) (of_parts s bursts (bursts_from m ([] ∷ [])) are
          (in_a_row s m ([] ∷ []) (λ places place there in_it. nothing places place there in_it)) apart)))
        where
          nothing : (places : List ℕ) (place : ℕ) → Contains ([] ∷ []) places → Contains places place → place < s.length
          nothing places place there in_it = absurd (omega (arith, in_it.1, empty_is there.0 there.1 there.2))
            where
              empty_is : (i : ℕ) → i < 1 → get_or ([] ∷ []) i places ≡ places → length places ≡ 0
              empty_is zero less e = ap (λ (l : List ℕ). length l) (sym e)
              empty_is (suc i) less e = absurd (omega (arith, less))

          apart : (i j : ℕ) (a b : Burst) → slice_get bursts i ≡ Some a → slice_get (bursts_from m ([] ∷ [])) j ≡ Some b → a.cycle < b.cycle
          apart i zero a b is is2 = omega (arith, before i a is, ap (λ (y : Burst). y.cycle) (same_burst (record { cycle = m; places = [] }) b is2))
          apart i (suc j) a b is is2 = absurd (cc)

-- Parts by number: the bursts of some of them.
module _ (s : Slicing) (on : ℕ → Bool) (goes_on : ℕ → Bool) (bursts : ℕ → List Burst) where
  abbrev pub bursts_on : ℕ → List Burst
  bursts_on v = cond (on v) (bursts v) []

  abbrev pub times_on : ℕ → List (List SectionTime)
  times_on v = cond (on v) (times_of s (goes_on v) (bursts v)) []

  -- the times of all parts are those of all bursts, where each part tells whether others follow
  pub all_times : (n a : ℕ)
      → ((v m : ℕ) → a ≤ v → v + 1 + m ≡ a + n → on v ≡ true → 1 ≤ length (flat_map bursts_on (range_with_len (v + 1) m)) → goes_on v ≡ true)
      → (last : Bool) × (flat_map times_on (range_with_len a n) ≡ times_of s last (flat_map bursts_on (range_with_len a n)))
  all_times zero a follows = (false, refl)
  all_times (suc n) a follows = by_rest (all_times n (a + 1) (λ v m from e. follows v m (omega (arith, from)) (omega (arith, e))))
    where
      rest : List Burst
      rest = flat_map bursts_on (range_with_len (a + 1) n)

      by_rest : (last : Bool) × (flat_map times_on (range_with_len (a + 1) n) ≡ times_of s last rest)
          → (last : Bool) × (times_on a ++ flat_map times_on (range_with_len (a + 1) n) ≡ times_of s last (bursts_on a ++ rest))
      by_rest (last, later) = by_own (on a) refl
        where
          by_own : (own : Bool) → on a ≡ own
              → (end : Bool) × (cond own (times_of s (goes_on a) (bursts a)) [] ++ flat_map times_on (range_with_len (a + 1) n) ≡ times_of s end (cond own (bursts a) [] ++ rest))
          by_own false e = (last, later)
          by_own true e = by_some rest refl
            where
              by_some : (others : List Burst) → rest ≡ others → (end : Bool) × (times_of s (goes_on a) (bursts a) ++ flat_map times_on (range_with_len (a + 1) n) ≡ times_of s end (bursts a ++ rest))
              by_some [] none = (
                goes_on a,
                ap (λ (l : List (List SectionTime)). times_of s (goes_on a) (bursts a) ++ l) (later ∙ ap (times_of s last) none)
                    ∙ append-nil (times_of s (goes_on a) (bursts a))
                    ∙ sym (ap (λ (l : List Burst). times_of s (goes_on a) (bursts a ++ l)) none ∙ ap (times_of s (goes_on a)) (append-nil (bursts a))),
              )
              by_some (x ∷ others) some = (
                last,
                ap₂ (λ (g : Bool) (l : List (List SectionTime)). times_of s g (bursts a) ++ l) more later ∙ sym (times_of-append s last (bursts a) rest),
              )
                where
                  count : 1 ≤ length (flat_map bursts_on (range_with_len (a + 1) n))
                  count = omega (arith, ap (λ (l : List Burst). length l) some)

                  more : goes_on a ≡ (last || ltb 0 (length rest))
                  more =
                      let is : ltb 0 (length rest) ≡ true = grind (arith, count) in
                      follows a n (omega arith) (omega arith) e count ∙ sym (ap (λ (b : Bool). last || b) is ∙ or_true last)
                    where
                      or_true : (b : Bool) → (b || true) ≡ true
                      or_true true = refl
                      or_true false = refl

  -- they lie in windows, where each part has later cycles than those before it
  pub all_in_windows : (first size : ℕ → ℕ) → (bound : ℕ) → ((v : ℕ) → v < bound → on v ≡ true → AreInWindows s (bursts v)) → ((v : ℕ) → AllFrom (first v) (bursts v))
      → ((v : ℕ) → AllBefore (first v + size v) (bursts v))
      → ((u v : ℕ) → u < v → v < bound → 1 ≤ length (bursts v) → first u + size u ≤ first v)
      → (n a : ℕ) → a + n ≤ bound → AreInWindows s (flat_map bursts_on (range_with_len a n))
  all_in_windows first size bound each from before rise zero a le = none_in s
  all_in_windows first size bound each from before rise (suc n) a le =
      of_parts s (bursts_on a) (flat_map bursts_on (range_with_len (a + 1) n)) (own (on a) refl)
      (all_in_windows first size bound each from before rise n (a + 1) (omega (arith, le)))
      (λ i j x y is is2. apart x y (before_next (on a) i x is) (later n (a + 1) (omega arith) (omega (arith, le)) j y is2))
    where
      own : (o : Bool) → on a ≡ o → AreInWindows s (cond o (bursts a) [])
      own true e = each a (omega (arith, le)) e
      own false e = none_in s

      before_next : (o : Bool) (i : ℕ) (x : Burst) → slice_get (cond o (bursts a) []) i ≡ Some x → x.cycle < first a + size a
      before_next true i x is = before a i x is
      before_next false i x is = absurd (cc)

      apart : (x y : Burst) → x.cycle < first a + size a → first a + size a ≤ y.cycle → x.cycle < y.cycle
      apart x y less le2 = omega (arith, less, le2)

      split_get : (front rest : List Burst) (i : ℕ) (b : Burst) → slice_get (front ++ rest) i ≡ Some b → (slice_get front i ≡ Some b) ⊎ ((k : ℕ) × (slice_get rest k ≡ Some b))
      split_get [] rest i b is = inr (i, is)
      split_get (x ∷ front) rest zero b is = inl is
      split_get (x ∷ front) rest (suc i) b is = split_get front rest i b is

      some_there : (list : List Burst) (i : ℕ) (b : Burst) → slice_get list i ≡ Some b → 1 ≤ length list
      some_there [] i b is = absurd (cc)
      some_there (x ∷ list) i b is = omega arith

      later : (m c : ℕ) → a < c → c + m ≤ bound → (j : ℕ) (y : Burst) → slice_get (flat_map bursts_on (range_with_len c m)) j ≡ Some y → first a + size a ≤ y.cycle
      later zero c less within j y is = absurd (cc)
      later (suc m) c less within j y is =
          by_side (split_get (bursts_on c) (flat_map bursts_on (range_with_len (c + 1) m)) j y is)
          (λ k is2. later m (c + 1) (omega (arith, less)) (omega (arith, within)) k y is2)
        where
          in_part : (o : Bool) → slice_get (cond o (bursts c) []) j ≡ Some y → first a + size a ≤ y.cycle
          in_part true is2 = omega (arith, rise a c less (omega (arith, within)) (some_there (bursts c) j y is2), from c j y is2)
          in_part false is2 = absurd (cc)

          by_side : (slice_get (bursts_on c) j ≡ Some y) ⊎ ((k : ℕ) × (slice_get (flat_map bursts_on (range_with_len (c + 1) m)) k ≡ Some y))
              → ((k : ℕ) → slice_get (flat_map bursts_on (range_with_len (c + 1) m)) k ≡ Some y → first a + size a ≤ y.cycle) → first a + size a ≤ y.cycle
          by_side (inl here) behind = in_part (on c) here
          by_side (inr (k, there)) behind = behind k there

-- bursts in cycles that follow one another
pub cycle_at : (c : ℕ) (frames : List (List ℕ)) (i : ℕ) (b : Burst) → slice_get (bursts_from c frames) i ≡ Some b → (b.cycle ≡ c + i) × (i < length frames)
cycle_at c [] i b is = absurd (cc)
cycle_at c (places ∷ frames) zero b is = (omega (arith, ap (λ (y : Burst). y.cycle) (same_burst (record { cycle = c; places = places }) b is)), omega arith)
cycle_at c (places ∷ frames) (suc i) b is =
    let later : (b.cycle ≡ c + 1 + i) × (i < length frames) = cycle_at (c + 1) frames i b is in
    (omega (arith, later.0), omega (arith, later.1))
