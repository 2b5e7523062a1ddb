-- The bits of numbers.
use Rattle.std.proofs.Common.{ℕ, zero, suc, List, [], ◌∷◌, ◌++◌, ◌≡◌, ◌+◌, ◌-◌, ◌*◌, ◌/◌, ◌%◌, ◌^◌, ◌<◌, ◌==◌, length, refl, ap, ap₂, sym, ◌∙◌, arith, Bool, false, bit_xor}
use Rattle.std.specs.Prelude.{replicate, if◌then◌else◌}
use Rattle.std.specs.Int.{bit_at}
use Rattle.std.proofs.lemmas.Nat.Bits.{bit_at_xor, bit_at-lt, bit_at_cat_low, bit_at_cat_high, bit_at-zero}
use Rattle.std.proofs.lemmas.Nat.{mod-pow-add}
use Rattle.std.proofs.Math.Pow.{pow_pos}
use Rattle.wire_spec.specs.BitPolynomials.{bit_sum, added_front, bits, number_of}

-- no bits of a number
pub bits_none : (a : ℕ) → bits 0 a ≡ []
unfolding bits
bits_none a = refl

-- the highest of n + 1 bits stands first
pub bits_more : (n a : ℕ) → bits (suc n) a ≡ (bit_at a n == 1) ∷ bits n a
unfolding bits
bits_more n a = refl

-- n bits are n
pub length-bits : (n a : ℕ) → length (bits n a) ≡ n
length-bits zero a = ap (λ l. length l) (bits_none a)
length-bits (suc n) a = ap (λ l. length l) (bits_more n a) ∙ ap (λ m. suc m) (length-bits n a)

-- the remainder of a sum of two bits modulo 2 is their sum
pub sum_is : (x y : ℕ) → x < 2 → y < 2 → ((x + y) % 2 == 1) ≡ bit_sum (x == 1) (y == 1)
sum_is zero zero x_bit y_bit = refl
sum_is zero (suc zero) x_bit y_bit = refl
sum_is (suc zero) zero x_bit y_bit = refl
sum_is (suc zero) (suc zero) x_bit y_bit = refl
sum_is x (suc (suc y)) x_bit y_bit = absurd (omega arith)
sum_is (suc (suc x)) y x_bit y_bit = absurd (omega arith)

-- the bits of an exclusive or are the sum of the bits
pub bits-xor : (n a b : ℕ) → bits n (bit_xor a b) ≡ added_front (bits n a) (bits n b)
bits-xor zero a b = bits_none (bit_xor a b) ∙ sym (bits_none b) ∙ ap (λ l. added_front l (bits 0 b)) (sym (bits_none a))
bits-xor (suc n) a b =
    bits_more n (bit_xor a b)
    ∙ ap₂ (λ (x : Bool) (l : List Bool). x ∷ l) (ap (λ x. x == 1) (bit_at_xor a b n) ∙ sum_is (bit_at a n) (bit_at b n) (bit_at-lt a n) (bit_at-lt b n)) (bits-xor n a b)
    ∙ ap₂ (λ (k l : List Bool). added_front k l) (sym (bits_more n a)) (sym (bits_more n b))

-- two numbers with the same bits below n
pub bits_same : (n a b : ℕ) → ((i : ℕ) → i < n → bit_at a i ≡ bit_at b i) → bits n a ≡ bits n b
bits_same zero a b same = bits_none a ∙ sym (bits_none b)
bits_same (suc n) a b same =
    bits_more n a ∙ ap₂ (λ (x : ℕ) (l : List Bool). (x == 1) ∷ l) (same n (omega arith)) (bits_same n a b (λ i below. same i (omega arith))) ∙ sym (bits_more n b)

-- the bits of a number that is another, shifted up by one
pub bits_shifted : (n a r : ℕ) → bit_at a 0 ≡ 0 → ((i : ℕ) → i < n → bit_at a (suc i) ≡ bit_at r i) → bits (suc n) a ≡ bits n r ++ false ∷ []
bits_shifted zero a r low same =
    bits_more 0 a ∙ ap₂ (λ (x : ℕ) (l : List Bool). (x == 1) ∷ l) low (bits_none a) ∙ ap (λ (l : List Bool). l ++ false ∷ []) (sym (bits_none r))
bits_shifted (suc n) a r low same =
    bits_more (suc n) a ∙ ap₂ (λ (x : ℕ) (l : List Bool). (x == 1) ∷ l) (same n (omega arith)) (bits_shifted n a r low (λ i below. same i (omega arith)))
    ∙ ap (λ (l : List Bool). l ++ false ∷ []) (sym (bits_more n r))

-- the bits of 0 are zeros
pub bits_zero : (n : ℕ) → bits n 0 ≡ replicate n false
bits_zero zero = bits_none 0
bits_zero (suc n) = bits_more n 0 ∙ ap₂ (λ (x : ℕ) (l : List Bool). (x == 1) ∷ l) (bit_at-zero n) (bits_zero n)

-- the bits of a number shifted up by k
pub bits_above : (n j k a : ℕ) → n ≡ j + k → bits n (a * 2 ^ k) ≡ bits j a ++ replicate k false
bits_above n zero k a count =
    let at : (i : ℕ) → i < n → bit_at (a * 2 ^ k) i ≡ bit_at 0 i = λ i below.
    let alone : a * 2 ^ k ≡ a * 2 ^ k + 0 = omega arith in ap (λ t. bit_at t i) alone ∙ bit_at_cat_low a k 0 i (omega arith) in
    let as_many : n ≡ k = omega arith in
    bits_same n (a * 2 ^ k) 0 at ∙ bits_zero n ∙ ap (λ m. replicate m false) as_many ∙ ap (λ (l : List Bool). l ++ replicate k false) (sym (bits_none a))
bits_above zero (suc j) k a count = absurd (omega arith)
bits_above (suc n) (suc j) k a count =
    let alone : a * 2 ^ k ≡ a * 2 ^ k + 0 = omega arith in
    let left : n - k ≡ j = omega arith in
    let positive : 0 < 2 ^ k = pow_pos k in
    bits_more n (a * 2 ^ k)
    ∙ ap₂ (λ (x : ℕ) (l : List Bool). (x == 1) ∷ l) (ap (λ t. bit_at t n) alone ∙ bit_at_cat_high a k 0 n positive (omega arith) ∙ ap (λ i. bit_at a i) left) (bits_above n j k a (omega arith))
    ∙ ap (λ (l : List Bool). l ++ replicate k false) (sym (bits_more j a))

-- bits above the width don't matter
pub bits-mod : (n a : ℕ) → bits n (a % 2 ^ n) ≡ bits n a
bits-mod n a = bits_same n (a % 2 ^ n) a (λ i below.
    let parts : a / 2 ^ n * 2 ^ n + a % 2 ^ n ≡ a = omega arith in
    sym (bit_at_cat_low (a / 2 ^ n) n (a % 2 ^ n) i below) ∙ ap (λ t. bit_at t i) parts)

-- a bit times its place value
bit_value : (x p : ℕ) → x < 2 → (if x == 1 then p else 0) ≡ x * p
bit_value zero p bit = omega arith
bit_value (suc zero) p bit = omega arith
bit_value (suc (suc x)) p bit = absurd (omega arith)

-- the number of the lowest n bits is the remainder modulo 2^n
pub number_of-bits : (n a : ℕ) → number_of (bits n a) ≡ a % 2 ^ n
number_of-bits zero a = ap (λ l. number_of l) (bits_none a) ∙ (omega arith)
number_of-bits (suc n) a =
    let parts : a % 2 ^ (1 + n) ≡ (a / 2 ^ n % 2 ^ 1) * 2 ^ n + a % 2 ^ n = mod-pow-add a 1 n in
    let count : 1 + n ≡ suc n = omega arith in
    ap (λ l. number_of l) (bits_more n a)
    ∙ ap₂ (λ x y. (if bit_at a n == 1 then 2 ^ x else 0) + y) (length-bits n a) (number_of-bits n a)
    ∙ ap (λ x. x + a % 2 ^ n) (bit_value (bit_at a n) (2 ^ n) (bit_at-lt a n))
    ∙ sym parts ∙ ap (λ k. a % 2 ^ k) count
