-- Marks of a block looked at together.
use Rattle.std.proofs.Common.{◌≡◌, ◌⊎◌, inl, inr, ℕ, zero, suc, ◌+◌, ◌*◌, ◌<◌, ◌≤◌, ◌^◌, Bool, true, false, not, eqb, bit_and, bit_or, min, max, List, get_or, refl, ap, sym, ◌∙◌, arith}
use Rattle.std.specs.Int.{bit_at}
use Rattle.std.proofs.lemmas.Bool.{cases_lt}
use Rattle.std.proofs.lemmas.Nat.Bits.{and_pow, bit_at_and, bit_at_or, bit_at-lt}
use Rattle.fec_frame.specs.Marks.{is_known_mark, is_start_mark}

-- a bit of a mark, set
bit_is : (k m : ℕ) → not (eqb (bit_and m (2 ^ k)) 0) ≡ not (eqb (bit_at m k * 2 ^ k) 0)
bit_is k m = ap (λ (n : ℕ). not (eqb n 0)) (and_pow m k)

low_both : (x y : ℕ) → x < 2 → y < 2 → not (eqb (min x y * 1) 0) ≡ true → (not (eqb (x * 1) 0) ≡ true) × (not (eqb (y * 1) 0) ≡ true)
low_both zero zero low_x low_y e = absurd (cc)
low_both zero (suc zero) low_x low_y e = absurd (cc)
low_both zero (suc (suc y)) low_x low_y e = absurd (omega (arith, low_y))
low_both (suc zero) zero low_x low_y e = absurd (cc)
low_both (suc zero) (suc zero) low_x low_y e = (refl, refl)
low_both (suc zero) (suc (suc y)) low_x low_y e = absurd (omega (arith, low_y))
low_both (suc (suc x)) y low_x low_y e = absurd (omega (arith, low_x))

low_none : (x y : ℕ) → x < 2 → y < 2 → not (eqb (max x y * 1) 0) ≡ false → (not (eqb (x * 1) 0) ≡ false) × (not (eqb (y * 1) 0) ≡ false)
low_none zero zero low_x low_y e = (refl, refl)
low_none zero (suc zero) low_x low_y e = absurd (cc)
low_none zero (suc (suc y)) low_x low_y e = absurd (omega (arith, low_y))
low_none (suc zero) zero low_x low_y e = absurd (cc)
low_none (suc zero) (suc zero) low_x low_y e = absurd (cc)
low_none (suc zero) (suc (suc y)) low_x low_y e = absurd (omega (arith, low_y))
low_none (suc (suc x)) y low_x low_y e = absurd (omega (arith, low_x))

start_none : (x y : ℕ) → x < 2 → y < 2 → not (eqb (max x y * 2) 0) ≡ false → (not (eqb (x * 2) 0) ≡ false) × (not (eqb (y * 2) 0) ≡ false)
start_none zero zero low_x low_y e = (refl, refl)
start_none zero (suc zero) low_x low_y e = absurd (cc)
start_none zero (suc (suc y)) low_x low_y e = absurd (omega (arith, low_y))
start_none (suc zero) zero low_x low_y e = absurd (cc)
start_none (suc zero) (suc zero) low_x low_y e = absurd (cc)
start_none (suc zero) (suc (suc y)) low_x low_y e = absurd (omega (arith, low_y))
start_none (suc (suc x)) y low_x low_y e = absurd (omega (arith, low_x))

-- what two marks have, or either of them
pub both_known : (a b : ℕ) → is_known_mark (bit_and a b) ≡ true → (is_known_mark a ≡ true) × (is_known_mark b ≡ true)
both_known a b both =
    let p = low_both (bit_at a 0) (bit_at b 0) (bit_at-lt a 0) (bit_at-lt b 0) (ap (λ (n : ℕ). not (eqb (n * 1) 0)) (sym (bit_at_and a b 0)) ∙ sym (bit_is 0 (bit_and a b)) ∙ both) in
    (bit_is 0 a ∙ p.0, bit_is 0 b ∙ p.1)

pub none_known : (a b : ℕ) → is_known_mark (bit_or a b) ≡ false → (is_known_mark a ≡ false) × (is_known_mark b ≡ false)
none_known a b none =
    let p = low_none (bit_at a 0) (bit_at b 0) (bit_at-lt a 0) (bit_at-lt b 0) (ap (λ (n : ℕ). not (eqb (n * 1) 0)) (sym (bit_at_or a b 0)) ∙ sym (bit_is 0 (bit_or a b)) ∙ none) in
    (bit_is 0 a ∙ p.0, bit_is 0 b ∙ p.1)

pub none_start : (a b : ℕ) → is_start_mark (bit_or a b) ≡ false → (is_start_mark a ≡ false) × (is_start_mark b ≡ false)
none_start a b none =
    let p = start_none (bit_at a 1) (bit_at b 1) (bit_at-lt a 1) (bit_at-lt b 1) (ap (λ (n : ℕ). not (eqb (n * 2) 0)) (sym (bit_at_or a b 1)) ∙ sym (bit_is 1 (bit_or a b)) ∙ none) in
    (bit_is 1 a ∙ p.0, bit_is 1 b ∙ p.1)

-- what holds of some places, and of the place after them
pub one_more : (test : ℕ → Bool) (answer : Bool) (marks : List ℕ) (from i : ℕ) → ((place : ℕ) → from ≤ place → place < from + i → test (get_or marks place 0) ≡ answer)
    → test (get_or marks (from + i) 0) ≡ answer → (place : ℕ) → from ≤ place → place < from + (i + 1) → test (get_or marks place 0) ≡ answer
one_more test answer marks from i before here place above below = by_place (cases_lt place (from + i))
  where
    by_place : (place < from + i) ⊎ (from + i ≤ place) → test (get_or marks place 0) ≡ answer
    by_place (inl earlier) = before place above earlier
    by_place (inr later) =
        let e : place ≡ from + i = omega (arith, later, below) in
        ap (λ (p : ℕ). test (get_or marks p 0)) e ∙ here
