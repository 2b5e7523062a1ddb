-- A product as code computes it: the sum of the second factor's shifts at the bits of the first.
use Rattle.std.proofs.Common.{ℕ, zero, suc, List, [], ◌∷◌, ◌++◌, ◌≡◌, ◌+◌, ◌-◌, ◌%◌, ◌^◌, ◌<◌, ◌==◌, length, refl, ap, ap₂, sym, subst, ◌∙◌, arith, Bool, true, false, length-append, bit_xor, lit<}
use Rattle.std.specs.Prelude.{replicate, if◌then◌else◌}
use Rattle.std.specs.Int.{bit_at}
use Rattle.std.specs.Int.Bits.{xor_lt, xor_zero_r}
use Rattle.std.proofs.Math.Nat.{mod-eq_of_lt}
use Rattle.wire_spec.specs.BitPolynomials.{added_front, divided, remainder, bits, number_of, polynomial_product}
use Rattle.fec_spec.specs.Field.{field_product}
use Rattle.division_law.specs.Registers.{register_steps}
use Rattle.division_law.proofs.Fronts.{added_behind, length-added, onto_zeros}
use Rattle.division_law.proofs.Lines.{bits_none, bits_more, bits_zero, length-bits, bits-xor, bits-mod, number_of-bits}
use Rattle.division_law.proofs.Division.{divided_none, divided_step, length-zeros}
use Rattle.division_law.proofs.Registers.{steps_none, steps_fit}
use Rattle.division_law.proofs.Linear.{divided-added, shifted_line}

-- b times x^n in the field
abbrev pub shifts : ℕ → ℕ → ℕ
shifts n b = register_steps 7 0x1D n b

-- the sum of b's shifts at the bits of a below n
unfoldable pub by_shifts : ℕ → ℕ → ℕ → ℕ
by_shifts zero a b = 0
by_shifts (suc n) a b = bit_xor (if (bit_at a n == 1) then shifts n b else 0) (by_shifts n a b)

pub by_shifts_none : (a b : ℕ) → by_shifts 0 a b ≡ 0
unfolding by_shifts
by_shifts_none a b = refl

pub by_shifts_more : (n a b : ℕ) → by_shifts (suc n) a b ≡ bit_xor (if (bit_at a n == 1) then shifts n b else 0) (by_shifts n a b)
unfolding by_shifts
by_shifts_more n a b = refl

if_fits : (x : Bool) (a n : ℕ) → a < n → (if x then a else 0) < n
if_fits false a n h = omega arith
if_fits true a n h = h

pub by_shifts_fit : (n a b : ℕ) → b < 2 ^ 8 → by_shifts n a b < 2 ^ 8
by_shifts_fit zero a b h = subst (λ t. t < 2 ^ 8) (sym (by_shifts_none a b)) (lit< tt)
by_shifts_fit (suc n) a b h =
    subst (λ t. t < 2 ^ 8) (sym (by_shifts_more n a b))
    (xor_lt 8 (if (bit_at a n == 1) then shifts n b else 0) (by_shifts n a b) (if_fits (bit_at a n == 1) (shifts n b) (2 ^ 8) (steps_fit 7 0x1D n b h (lit< tt))) (by_shifts_fit n a b h))

product_none : (q : List Bool) → polynomial_product [] q ≡ replicate (length q - 1) false
unfolding polynomial_product
product_none q = refl

product_false : (p q : List Bool) → polynomial_product (false ∷ p) q ≡ false ∷ polynomial_product p q
unfolding polynomial_product
product_false p q = refl

product_true : (p q : List Bool) → polynomial_product (true ∷ p) q ≡ added_front q (false ∷ polynomial_product p q)
unfolding polynomial_product
product_true p q = refl

pub length-product : (p q : List Bool) → length (polynomial_product p q) ≡ length p + (length q - 1)
length-product [] q = ap (λ l. length l) (product_none q) ∙ length-zeros (length q - 1) ∙ (omega arith)
length-product (false ∷ p) q = ap (λ l. length l) (product_false p q) ∙ ap (λ n. suc n) (length-product p q) ∙ (omega arith)
length-product (true ∷ p) q =
    ap (λ l. length l) (product_true p q) ∙ length-added q (false ∷ polynomial_product p q) ∙ ap (λ n. suc n) (length-product p q) ∙ (omega arith)

-- the divisor
abbrev pub divisor : List Bool
divisor = true ∷ bits 8 0x1D

-- one more coefficient in front of a product that division leaves as r
more_true : (n b r : ℕ) (p : List Bool) → b < 2 ^ 8 → length p ≡ suc n
    → divided n divisor (polynomial_product p (bits 8 b)) ≡ bits 8 r
    → divided (suc n) divisor (polynomial_product (true ∷ p) (bits 8 b)) ≡ bits 8 (bit_xor (shifts (suc n) b) r)
more_true n b r p h lp is =
    let d : List Bool = bits 8 0x1D in
    let q : List Bool = bits 8 b in
    let z : List Bool = replicate (suc n) false in
    let rest : List Bool = polynomial_product p q in
    let ld : length d ≡ 8 = length-bits 8 0x1D in
    let lq : length q ≡ 8 = length-bits 8 b in
    let lz : length z ≡ suc n = length-zeros (suc n) in
    let lr : length rest ≡ length p + (length q - 1) = length-product p q in
    let lqz : length (q ++ z) ≡ length q + length z = length-append q z in
    ap (λ l. divided (suc n) divisor l) (product_true p q ∙ sym (added_behind (suc n) q (false ∷ rest)))
    ∙ divided-added (suc n) d (q ++ z) (false ∷ rest) (omega arith) (omega arith)
    ∙ ap₂ (λ (x y : List Bool). added_front x y) (shifted_line 7 0x1D (suc n) b h (lit< tt)) (divided_step n divisor false rest ∙ is)
    ∙ sym (bits-xor 8 (shifts (suc n) b) r)

more_false : (n b r : ℕ) (p : List Bool)
    → divided n divisor (polynomial_product p (bits 8 b)) ≡ bits 8 r
    → divided (suc n) divisor (polynomial_product (false ∷ p) (bits 8 b)) ≡ bits 8 r
more_false n b r p is =
    ap (λ l. divided (suc n) divisor l) (product_false p (bits 8 b)) ∙ divided_step n divisor false (polynomial_product p (bits 8 b)) ∙ is

more : (n b r : ℕ) (x : Bool) (p : List Bool) → b < 2 ^ 8 → length p ≡ suc n
    → divided n divisor (polynomial_product p (bits 8 b)) ≡ bits 8 r
    → divided (suc n) divisor (polynomial_product (x ∷ p) (bits 8 b)) ≡ bits 8 (bit_xor (if x then shifts (suc n) b else 0) r)
more n b r false p h lp is = more_false n b r p is
more n b r true p h lp is = more_true n b r p h lp is

first : (b : ℕ) (x : Bool) → b < 2 ^ 8 → divided 0 divisor (polynomial_product (x ∷ []) (bits 8 b)) ≡ bits 8 (bit_xor (if x then shifts 0 b else 0) 0)
first b false h =
    let lq : length (bits 8 b) ≡ 8 = length-bits 8 b in
    let e : length (bits 8 b) - 1 ≡ 7 = omega arith in
    divided_none divisor (polynomial_product (false ∷ []) (bits 8 b)) ∙ product_false [] (bits 8 b)
    ∙ ap (λ (l : List Bool). false ∷ l) (product_none (bits 8 b) ∙ ap (λ n. replicate n false) e) ∙ sym (bits_zero 8)
first b true h =
    let lq : length (bits 8 b) ≡ 8 = length-bits 8 b in
    let e : length (bits 8 b) - 1 ≡ 7 = omega arith in
    divided_none divisor (polynomial_product (true ∷ []) (bits 8 b)) ∙ product_true [] (bits 8 b)
    ∙ ap (λ (l : List Bool). added_front (bits 8 b) (false ∷ l)) (product_none (bits 8 b) ∙ ap (λ n. replicate n false) e)
    ∙ onto_zeros 8 (bits 8 b) lq ∙ ap (λ t. bits 8 t) (sym (steps_none 7 0x1D b) ∙ sym (xor_zero_r (shifts 0 b)))

divided_product : (n a b : ℕ) → b < 2 ^ 8 → divided n divisor (polynomial_product (bits (suc n) a) (bits 8 b)) ≡ bits 8 (by_shifts (suc n) a b)
divided_product zero a b h =
    ap (λ l. divided 0 divisor (polynomial_product l (bits 8 b))) (bits_more 0 a ∙ ap (λ (l : List Bool). (bit_at a 0 == 1) ∷ l) (bits_none a))
    ∙ first b (bit_at a 0 == 1) h
    ∙ ap (λ t. bits 8 t) (ap (λ t. bit_xor (if (bit_at a 0 == 1) then shifts 0 b else 0) t) (sym (by_shifts_none a b)) ∙ sym (by_shifts_more 0 a b))
divided_product (suc n) a b h =
    ap (λ l. divided (suc n) divisor (polynomial_product l (bits 8 b))) (bits_more (suc n) a)
    ∙ more n b (by_shifts (suc n) a b) (bit_at a (suc n) == 1) (bits (suc n) a) h (length-bits (suc n) a) (divided_product n a b h)
    ∙ ap (λ t. bits 8 t) (sym (by_shifts_more (suc n) a b))

divisor_is : bits 9 0x11D ≡ divisor
unfolding bits
divisor_is = refl

-- the product is the sum of b's shifts at the bits of a
pub product_is : (a b : ℕ) → b < 2 ^ 8 → field_product a b ≡ by_shifts 8 a b
unfolding field_product remainder
product_is a b h =
    let line : List Bool = polynomial_product (bits 8 a) (bits 8 b) in
    let la : length (bits 8 a) ≡ 8 = length-bits 8 a in
    let lb : length (bits 8 b) ≡ 8 = length-bits 8 b in
    let ld : length (bits 9 0x11D) ≡ 9 = length-bits 9 0x11D in
    let ll : length line ≡ length (bits 8 a) + (length (bits 8 b) - 1) = length-product (bits 8 a) (bits 8 b) in
    let e : length line + 1 - length (bits 9 0x11D) ≡ 7 = omega arith in
    ap (λ l. number_of l) (ap₂ (λ n v. divided n v line) e divisor_is ∙ divided_product 7 a b h)
    ∙ number_of-bits 8 (by_shifts 8 a b) ∙ mod-eq_of_lt (by_shifts_fit 8 a b h)

-- only the lowest eight bits count
pub product-mod : (a b : ℕ) → field_product (a % 2 ^ 8) (b % 2 ^ 8) ≡ field_product a b
unfolding field_product
product-mod a b = ap₂ (λ (x y : List Bool). number_of (remainder (bits 9 0x11D) (polynomial_product x y))) (bits-mod 8 a) (bits-mod 8 b)
