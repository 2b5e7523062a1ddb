-- How many numbers of a range pass a test.
use Rattle.std.proofs.Common.{◌≡◌, ℕ, zero, suc, ◌+◌, ◌<◌, ◌≤◌, Bool, true, false, not, cond, List, [], ◌∷◌, refl, ap, ap₂, sym, ◌∙◌, arith}
use Rattle.std.specs.Prelude.{count_by}
use Rattle.std.specs.List.{range_with_len}
use Rattle.std.proofs.lemmas.List.Sums.{sum_by-cons}

count_first : (p : ℕ → Bool) (x : ℕ) (xs : List ℕ) → count_by p (x ∷ xs) ≡ cond (p x) 1 0 + count_by p xs
count_first p x xs = sum_by-cons (λ (y : ℕ). cond (p y) 1 0) x xs

-- a range in two parts
pub count_split : (p : ℕ → Bool) (k n a : ℕ) → count_by p (range_with_len a (k + n)) ≡ count_by p (range_with_len a k) + count_by p (range_with_len (a + k) n)
count_split p zero n a =
    let e : 0 + n ≡ n = omega arith in
    let f : a ≡ a + 0 = omega arith in
    ap (λ (m : ℕ). count_by p (range_with_len a m)) e ∙ ap (λ (b : ℕ). count_by p (range_with_len b n)) f ∙ zero_left (count_by p (range_with_len (a + 0) n))
  where
    zero_left : (m : ℕ) → m ≡ 0 + m
    zero_left m = omega arith
count_split p (suc k) n a =
    let e : suc k + n ≡ suc (k + n) = omega arith in
    let f : a + 1 + k ≡ a + suc k = omega arith in
    let whole : count_by p (range_with_len a (suc (k + n))) ≡ cond (p a) 1 0 + count_by p (range_with_len (a + 1) (k + n)) = count_first p a (range_with_len (a + 1) (k + n)) in
    let part : count_by p (range_with_len a (suc k)) ≡ cond (p a) 1 0 + count_by p (range_with_len (a + 1) k) = count_first p a (range_with_len (a + 1) k) in
    omega (
      arith,
      ap (λ (m : ℕ). count_by p (range_with_len a m)) e,
      whole,
      part,
      count_split p k n (a + 1),
      ap (λ (b : ℕ). count_by p (range_with_len b n)) f,
    )

-- one number more
pub count_more : (p : ℕ → Bool) (k a : ℕ) → count_by p (range_with_len a (k + 1)) ≡ count_by p (range_with_len a k) + cond (p (a + k)) 1 0
count_more p k a =
    let last : count_by p (range_with_len (a + k) 1) ≡ cond (p (a + k)) 1 0 + count_by p [] = count_first p (a + k) [] in
    let none : count_by p [] ≡ 0 = refl in
    omega (arith, count_split p k 1 a, last, none)

pub count_same : (p q : ℕ → Bool) (n a : ℕ) → ((i : ℕ) → i < n → p (a + i) ≡ q (a + i)) → count_by p (range_with_len a n) ≡ count_by q (range_with_len a n)
count_same p q zero a same = refl
count_same p q (suc n) a same =
    let e : a + 0 ≡ a = omega arith in
    count_first p a (range_with_len (a + 1) n)
    ∙ ap₂ (λ (b : Bool) (m : ℕ). cond b 1 0 + m) (ap p (sym e) ∙ same 0 (omega arith) ∙ ap q e)
    (count_same p q n (a + 1) (λ i low. let t : a + 1 + i ≡ a + suc i = omega arith in ap p t ∙ same (suc i) (omega (arith, low)) ∙ ap q (sym t)))
    ∙ sym (count_first q a (range_with_len (a + 1) n))

pub count_all : (p : ℕ → Bool) (n a : ℕ) → ((i : ℕ) → i < n → p (a + i) ≡ true) → count_by p (range_with_len a n) ≡ n
count_all p zero a all = refl
count_all p (suc n) a all =
    let e : a + 0 ≡ a = omega arith in
    let first : ◌≡◌ {A = ℕ} (cond (p a) 1 0) 1 = ap (λ (b : Bool). cond b 1 0) (ap p (sym e) ∙ all 0 (omega arith)) in
    omega (
      arith,
      count_first p a (range_with_len (a + 1) n),
      first,
      count_all p n (a + 1) (λ i low. let t : a + 1 + i ≡ a + suc i = omega arith in ap p t ∙ all (suc i) (omega (arith, low))),
    )

pub count_none : (p : ℕ → Bool) (n a : ℕ) → ((i : ℕ) → i < n → p (a + i) ≡ false) → count_by p (range_with_len a n) ≡ 0
count_none p zero a none = refl
count_none p (suc n) a none =
    let e : a + 0 ≡ a = omega arith in
    let first : ◌≡◌ {A = ℕ} (cond (p a) 1 0) 0 = ap (λ (b : Bool). cond b 1 0) (ap p (sym e) ∙ none 0 (omega arith)) in
    omega (
      arith,
      count_first p a (range_with_len (a + 1) n),
      first,
      count_none p n (a + 1) (λ i low. let t : a + 1 + i ≡ a + suc i = omega arith in ap p t ∙ none (suc i) (omega (arith, low))),
    )

one_or_other : (b : Bool) → cond b 1 0 + cond (not b) 1 0 ≡ 1
one_or_other true = refl
one_or_other false = refl

-- those that pass, and those that do not
pub count_both : (p : ℕ → Bool) (n a : ℕ) → count_by p (range_with_len a n) + count_by (λ (x : ℕ). not (p x)) (range_with_len a n) ≡ n
count_both p zero a = refl
count_both p (suc n) a =
    omega (
      arith,
      count_first p a (range_with_len (a + 1) n),
      count_first (λ (x : ℕ). not (p x)) a (range_with_len (a + 1) n),
      one_or_other (p a),
      count_both p n (a + 1),
    )

pub one_most : (b : Bool) → cond b 1 0 ≤ 1
one_most true = omega arith
one_most false = omega arith
