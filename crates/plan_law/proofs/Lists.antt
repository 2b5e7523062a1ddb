-- Tests over lists, and over the numbers of a range.
use Rattle.std.proofs.Common.{◌≡◌, ℕ, zero, suc, ◌+◌, ◌<◌, ◌≤◌, max, Bool, true, false, not, ◌&&◌, ◌||◌, List, [], ◌∷◌, map, fold, Option, refl, ap, sym, subst, ◌∙◌, arith}
use Rattle.std.specs.List.{list_all, list_any, range_with_len, filter_map, cons_option}
use Rattle.std.proofs.lemmas.Bool.{and_parts, and_from}

-- of two tests neither holds
pub neither : (a b : Bool) → (a || b) ≡ false → (a ≡ false) × (b ≡ false)
neither true b none = absurd (cc)
neither false b none = (refl, none)

pub not_false : (b : Bool) → not b ≡ true → b ≡ false
not_false true is = absurd (cc)
not_false false is = refl

pub not_true : (b : Bool) → b ≡ false → not b ≡ true
not_true true is = absurd (cc)
not_true false is = refl

-- a test of the parts is a test of what they are
pub all_by : {X Y : Type 0} (p : Y → Bool) (part : X → Y) (xs : List X) → list_all p (map part xs) ≡ list_all (λ b. b) (map (λ x. p (part x)) xs)
all_by p part [] = refl
all_by p part (x ∷ xs) = ap (λ (b : Bool). p (part x) && b) (all_by p part xs)

pub any_by : {X Y : Type 0} (p : Y → Bool) (part : X → Y) (xs : List X) → list_any p (map part xs) ≡ list_any (λ b. b) (map (λ x. p (part x)) xs)
any_by p part [] = refl
any_by p part (x ∷ xs) = ap (λ (b : Bool). p (part x) || b) (any_by p part xs)

pub some_by : {X Y Z : Type 0} (f : Y → Option Z) (part : X → Y) (xs : List X) → filter_map f (map part xs) ≡ filter_map (λ o. o) (map (λ x. f (part x)) xs)
some_by f part [] = refl
some_by {X} {Y} {Z} f part (x ∷ xs) = ap (λ (l : List Z). cons_option (f (part x)) l) (some_by f part xs)

-- where one test fails another does, so over a list
pub any_fewer : {X : Type 0} (p q : X → Bool) → ((x : X) → p x ≡ false → q x ≡ false) → (xs : List X) → list_any p xs ≡ false → list_any q xs ≡ false
any_fewer p q fewer [] none = refl
any_fewer p q fewer (x ∷ xs) none =
    let parts = neither (p x) (list_any p xs) none in
    both_false (q x) (list_any q xs) (fewer x parts.0) (any_fewer p q fewer xs parts.1)
  where
    both_false : (a b : Bool) → a ≡ false → b ≡ false → (a || b) ≡ false
    both_false true b no_a no_b = absurd (cc)
    both_false false b no_a no_b = no_b

-- A range.

shifted : (start i : ℕ) → start + 1 + i ≡ start + suc i
shifted start i = omega arith

pub all_at : (p : ℕ → Bool) (start n i : ℕ) → list_all p (range_with_len start n) ≡ true → i < n → p (start + i) ≡ true
all_at p start zero i all within = absurd (omega arith)
all_at p start (suc n) zero all within = ap p (start_is start) ∙ (and_parts (p start) (list_all p (range_with_len (start + 1) n)) all).0
  where
    start_is : (s : ℕ) → s + 0 ≡ s
    start_is s = omega arith
all_at p start (suc n) (suc i) all within =
    ap p (sym (shifted start i))
    ∙ all_at p (start + 1) n i (and_parts (p start) (list_all p (range_with_len (start + 1) n)) all).1 (omega arith)

pub none_at : (p : ℕ → Bool) (start n i : ℕ) → list_any p (range_with_len start n) ≡ false → i < n → p (start + i) ≡ false
none_at p start zero i none within = absurd (omega arith)
none_at p start (suc n) zero none within = ap p (start_is start) ∙ (neither (p start) (list_any p (range_with_len (start + 1) n)) none).0
  where
    start_is : (s : ℕ) → s + 0 ≡ s
    start_is s = omega arith
none_at p start (suc n) (suc i) none within =
    ap p (sym (shifted start i))
    ∙ none_at p (start + 1) n i (neither (p start) (list_any p (range_with_len (start + 1) n)) none).1 (omega arith)

pub all_from : (p : ℕ → Bool) (start n : ℕ) → ((i : ℕ) → i < n → p (start + i) ≡ true) → list_all p (range_with_len start n) ≡ true
all_from p start zero each = refl
all_from p start (suc n) each =
    and_from (p start) (list_all p (range_with_len (start + 1) n)) (ap p (sym (start_is start)) ∙ each 0 (omega arith))
    (all_from p (start + 1) n (λ i within. ap p (shifted start i) ∙ each (suc i) (omega (arith, within))))
  where
    start_is : (s : ℕ) → s + 0 ≡ s
    start_is s = omega arith

-- the greatest is above each
most_above : (g : ℕ → ℕ) (a start n : ℕ) → a ≤ fold max a (map g (range_with_len start n))
most_above g a start zero = omega arith
most_above g a start (suc n) = omega (arith, most_above g (max a (g start)) (start + 1) n)

most_from : (g : ℕ → ℕ) (a start n i : ℕ) → i < n → g (start + i) ≤ fold max a (map g (range_with_len start n))
most_from g a start zero i within = absurd (omega arith)
most_from g a start (suc n) zero within =
    rw (start_is start) (omega (arith, most_above g (max a (g start)) (start + 1) n))
  where
    start_is : (s : ℕ) → s + 0 ≡ s
    start_is s = omega arith
most_from g a start (suc n) (suc i) within =
    rw (sym (shifted start i)) (most_from g (max a (g start)) (start + 1) n i (omega arith))

pub most_is_above : (g : ℕ → ℕ) (n i : ℕ) → i < n → g i ≤ fold max 0 (map g (range_with_len 0 n))
most_is_above g n i within = subst (λ (m : ℕ). m ≤ fold max 0 (map g (range_with_len 0 n))) (ap g (zero_is i)) (most_from g 0 0 n i within)
  where
    zero_is : (s : ℕ) → 0 + s ≡ s
    zero_is s = omega arith
