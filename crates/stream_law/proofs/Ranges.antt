-- Lists and sums over numbers from one on.
use Rattle.std.proofs.Common.{◌≡◌, ◌⊎◌, inl, inr, ℕ, zero, suc, ◌+◌, ◌*◌, ◌<◌, ◌≤◌, List, [], ◌∷◌, ◌++◌, refl, sym, ap, ap₂, ◌∙◌, arith}
use Rattle.std.specs.Prelude.{flat_map, sum_by}
use Rattle.std.specs.List.{range_with_len}
use Rattle.std.proofs.lemmas.Bool.{cases_lt}
use Rattle.std.proofs.lemmas.List.Sums.{sum_by-append, sum_by-cons}
use Rattle.std.proofs.Math.Nat.{add-mul}

pub range_append : (a m n b : ℕ) → b ≡ a + m → range_with_len a (m + n) ≡ range_with_len a m ++ range_with_len b n
range_append a zero n b e = let same : b ≡ a = omega (arith, e) in let none : 0 + n ≡ n = omega arith in ap (range_with_len a) none ∙ ap (λ (i : ℕ). range_with_len i n) (sym same)
range_append a (suc m) n b e =
    let next : suc m + n ≡ suc (m + n) = omega arith in
    ap (range_with_len a) next ∙ ap (λ (t : List ℕ). a ∷ t) (range_append (a + 1) m n b (omega (arith, e)))

-- what is the same of each number is the same of all
pub flat_map_same : {X : Type 0} (f g : ℕ → List X) (a n : ℕ) → ((v : ℕ) → v < a + n → f v ≡ g v) → flat_map f (range_with_len a n) ≡ flat_map g (range_with_len a n)
flat_map_same f g a zero each = refl
flat_map_same {X} f g a (suc n) each =
    ap₂ (λ (x y : List X). x ++ y) (each a (omega arith)) (flat_map_same f g (a + 1) n (λ v less. each v (omega (arith, less))))

pub sum_same : (f g : ℕ → ℕ) (a n : ℕ) → ((v : ℕ) → v < a + n → f v ≡ g v) → sum_by f (range_with_len a n) ≡ sum_by g (range_with_len a n)
sum_same f g a zero each = refl
sum_same f g a (suc n) each =
    sum_by-cons f a (range_with_len (a + 1) n)
    ∙ ap₂ (λ (x y : ℕ). x + y) (each a (omega arith)) (sum_same f g (a + 1) n (λ v less. each v (omega (arith, less))))
    ∙ sym (sum_by-cons g a (range_with_len (a + 1) n))

-- one number more
pub sum_next : (f : ℕ → ℕ) (n : ℕ) → sum_by f (range_with_len 0 (n + 1)) ≡ sum_by f (range_with_len 0 n) + f n
sum_next f n =
    ap (sum_by f) (range_append 0 n 1 n (omega arith))
    ∙ sum_by-append f (range_with_len 0 n) (n ∷ [])
    ∙ ap (λ (m : ℕ). sum_by f (range_with_len 0 n) + m) (one (f n))
  where
    one : (m : ℕ) → 0 + m ≡ m
    one m = omega arith

-- a sum of so many numbers that have a most
pub sum_most : (f : ℕ → ℕ) (most a n : ℕ) → ((v : ℕ) → v < a + n → f v ≤ most) → sum_by f (range_with_len a n) ≤ n * most
sum_most f most a zero each = omega arith
sum_most f most a (suc n) each =
    let one : suc n ≡ n + 1 = omega arith in
    omega (
      arith,
      sum_by-cons f a (range_with_len (a + 1) n),
      each a (omega arith),
      sum_most f most (a + 1) n (λ v less. each v (omega (arith, less))),
      ap (λ (k : ℕ). k * most) one ∙ add-mul n 1 most,
    )

-- the sum before a number is no less than before an earlier one
pub sum_rises : (f : ℕ → ℕ) (m n : ℕ) → m ≤ n → sum_by f (range_with_len 0 m) ≤ sum_by f (range_with_len 0 n)
sum_rises f m zero le = let none : m ≡ 0 = omega (arith, le) in omega (arith, ap (λ (k : ℕ). sum_by f (range_with_len 0 k)) none)
sum_rises f m (suc n) le = by_place (cases_lt n m) (λ more. sum_rises f m n more)
  where
    by_place : (n < m) ⊎ (m ≤ n) → (m ≤ n → sum_by f (range_with_len 0 m) ≤ sum_by f (range_with_len 0 n)) → sum_by f (range_with_len 0 m) ≤ sum_by f (range_with_len 0 (suc n))
    by_place (inl here) rises = let same : m ≡ suc n = omega (arith, le, here) in omega (arith, ap (λ (k : ℕ). sum_by f (range_with_len 0 k)) same)
    by_place (inr more) rises =
        let next : suc n ≡ n + 1 = omega arith in
        omega (arith, ap (λ (k : ℕ). sum_by f (range_with_len 0 k)) next, sum_next f n, rises more)
