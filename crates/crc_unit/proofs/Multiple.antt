-- x^2400+x^1240+x^936+x^712+1 is a multiple of CRC_32's generator polynomial.
use Rattle.std.proofs.Common.{ℕ, zero, suc, ◌≡◌, ◌+◌, ◌*◌, ◌/◌, ◌%◌, ◌^◌, ◌<◌, ◌≤◌, refl, ap, ap₂, sym, ◌∙◌, arith, lit<, bit_xor}
use Rattle.std.specs.Int.Bits.{xor_lt, xor_shifted}
use Rattle.std.proofs.Math.Nat.{pow-suc}
use Rattle.std.proofs.Math.Pow.{pow_mono}
use Rattle.division_law.specs.Registers.{register_steps}
use Rattle.division_law.proofs.Registers.{steps_fit}
use Rattle.division_law.proofs.Linear.{steps_xor}
use Rattle.crc_unit.proofs.Steps.{steps_low}
use Rattle.crc_unit.proofs.ByEntries.{shifts, steps-add, swap}

-- a register shifted as often as each of the five terms says, and these five added
abbrev pub five : ℕ → ℕ
five r = bit_xor (bit_xor (bit_xor (bit_xor (shifts 2400 r) (shifts 1240 r)) (shifts 936 r)) (shifts 712 r)) r

-- of 1 they leave nothing, which is computed
five_of_one : five 1 ≡ 0
unfolding register_steps
five_of_one = refl

-- nor do they of 0
five_of_zero : five 0 ≡ 0
unfolding register_steps
five_of_zero = refl

-- shifts keep a register's 32 bits
pub shifts_fit : (n r : ℕ) → r < 2 ^ 32 → shifts n r < 2 ^ 32
shifts_fit n r small = steps_fit 31 0x04C1_1DB7 n r small (lit< tt)

-- shifts are additive
pub shifts-xor : (n a b : ℕ) → a < 2 ^ 32 → b < 2 ^ 32 → shifts n (bit_xor a b) ≡ bit_xor (shifts n a) (shifts n b)
shifts-xor n a b a_small b_small = steps_xor 31 0x04C1_1DB7 n a b a_small b_small (lit< tt)

-- shifts may change places
shifts_swap : (n m r : ℕ) → shifts n (shifts m r) ≡ shifts m (shifts n r)
shifts_swap n m r =
    let count : m + n ≡ n + m = omega arith in
    sym (steps-add m n r) ∙ ap (λ t. shifts t r) count ∙ steps-add n m r

-- the five of a sum are the sum of the fives
pub five-xor : (a b : ℕ) → a < 2 ^ 32 → b < 2 ^ 32 → five (bit_xor a b) ≡ bit_xor (five a) (five b)
five-xor a b a_small b_small =
    let a2 : ℕ = bit_xor (shifts 2400 a) (shifts 1240 a) in
    let b2 : ℕ = bit_xor (shifts 2400 b) (shifts 1240 b) in
    let a3 : ℕ = bit_xor a2 (shifts 936 a) in
    let b3 : ℕ = bit_xor b2 (shifts 936 b) in
    let a4 : ℕ = bit_xor a3 (shifts 712 a) in
    let b4 : ℕ = bit_xor b3 (shifts 712 b) in
    let two : bit_xor (shifts 2400 (bit_xor a b)) (shifts 1240 (bit_xor a b)) ≡ bit_xor a2 b2 =
    ap₂ (λ x y. bit_xor x y) (shifts-xor 2400 a b a_small b_small) (shifts-xor 1240 a b a_small b_small)
    ∙ swap (shifts 2400 a) (shifts 2400 b) (shifts 1240 a) (shifts 1240 b) in
    let three : bit_xor (bit_xor (shifts 2400 (bit_xor a b)) (shifts 1240 (bit_xor a b))) (shifts 936 (bit_xor a b)) ≡ bit_xor a3 b3 =
    ap₂ (λ x y. bit_xor x y) two (shifts-xor 936 a b a_small b_small) ∙ swap a2 b2 (shifts 936 a) (shifts 936 b) in
    let four : bit_xor (bit_xor (bit_xor (shifts 2400 (bit_xor a b)) (shifts 1240 (bit_xor a b))) (shifts 936 (bit_xor a b))) (shifts 712 (bit_xor a b)) ≡ bit_xor a4 b4 =
    ap₂ (λ x y. bit_xor x y) three (shifts-xor 712 a b a_small b_small) ∙ swap a3 b3 (shifts 712 a) (shifts 712 b) in
    ap (λ t. bit_xor t (bit_xor a b)) four ∙ swap a4 b4 a b

-- the five of a shifted register are the five, shifted
five-shifts : (n r : ℕ) → r < 2 ^ 32 → five (shifts n r) ≡ shifts n (five r)
five-shifts n r small =
    let s1 : shifts 2400 r < 2 ^ 32 = shifts_fit 2400 r small in
    let s2 : shifts 1240 r < 2 ^ 32 = shifts_fit 1240 r small in
    let s3 : shifts 936 r < 2 ^ 32 = shifts_fit 936 r small in
    let s4 : shifts 712 r < 2 ^ 32 = shifts_fit 712 r small in
    let r2 : ℕ = bit_xor (shifts 2400 r) (shifts 1240 r) in
    let r2_small : r2 < 2 ^ 32 = xor_lt 32 (shifts 2400 r) (shifts 1240 r) s1 s2 in
    let r3 : ℕ = bit_xor r2 (shifts 936 r) in
    let r3_small : r3 < 2 ^ 32 = xor_lt 32 r2 (shifts 936 r) r2_small s3 in
    let r4 : ℕ = bit_xor r3 (shifts 712 r) in
    let r4_small : r4 < 2 ^ 32 = xor_lt 32 r3 (shifts 712 r) r3_small s4 in
    let two : bit_xor (shifts 2400 (shifts n r)) (shifts 1240 (shifts n r)) ≡ shifts n r2 =
    ap₂ (λ x y. bit_xor x y) (shifts_swap 2400 n r) (shifts_swap 1240 n r) ∙ sym (shifts-xor n (shifts 2400 r) (shifts 1240 r) s1 s2) in
    let three : bit_xor (bit_xor (shifts 2400 (shifts n r)) (shifts 1240 (shifts n r))) (shifts 936 (shifts n r)) ≡ shifts n r3 =
    ap₂ (λ x y. bit_xor x y) two (shifts_swap 936 n r) ∙ sym (shifts-xor n r2 (shifts 936 r) r2_small s3) in
    let four : bit_xor (bit_xor (bit_xor (shifts 2400 (shifts n r)) (shifts 1240 (shifts n r))) (shifts 936 (shifts n r))) (shifts 712 (shifts n r)) ≡ shifts n r4 =
    ap₂ (λ x y. bit_xor x y) three (shifts_swap 712 n r) ∙ sym (shifts-xor n r3 (shifts 712 r) r3_small s4) in
    ap (λ t. bit_xor t (shifts n r)) four ∙ sym (shifts-xor n r4 r r4_small small)

-- of a single bit they leave nothing
five_of_bit : (b : ℕ) → b < 2 → five b ≡ 0
five_of_bit zero fits = five_of_zero
five_of_bit (suc zero) fits = five_of_one
five_of_bit (suc (suc b)) fits = absurd (omega arith)

-- of a register with m bits they leave nothing: its last bit and the others, which are a shifted register
five_of_bits : (m r : ℕ) → m ≤ 32 → r < 2 ^ m → five r ≡ 0
five_of_bits zero r few fits =
    let none : r ≡ 0 = omega arith in
    ap (λ t. five t) none ∙ five_of_zero
five_of_bits (suc m) r few fits =
    let half : ℕ = r / 2 in
    let last : ℕ = r % 2 in
    let last_fits : last < 2 = omega arith in
    let width : 2 ^ suc m ≡ 2 ^ m * 2 = pow-suc 2 m in
    let half_fits : half < 2 ^ m = omega arith in
    let most : 2 ^ suc m ≤ 2 ^ 32 = pow_mono few in
    let moved_small : half * 2 ^ 1 < 2 ^ 32 = omega arith in
    let half_small : half < 2 ^ 32 = omega arith in
    let last_small : last < 2 ^ 32 = omega arith in
    let parts : r ≡ half * 2 ^ 1 + last = omega arith in
    let moved : half * 2 ^ 1 ≡ shifts 1 half = sym (steps_low 31 0x04C1_1DB7 1 half moved_small) in
    ap (λ t. five t) (parts ∙ sym (xor_shifted half 1 last last_fits))
    ∙ five-xor (half * 2 ^ 1) last moved_small last_small
    ∙ ap₂ (λ x y. bit_xor x y)
    (ap (λ t. five t) moved ∙ five-shifts 1 half half_small ∙ ap (λ t. shifts 1 t) (five_of_bits m half (omega arith) half_fits) ∙ steps_low 31 0x04C1_1DB7 1 0 (lit< tt))
    (five_of_bit last last_fits)

-- of no register they leave anything
pub multiple : (r : ℕ) → r < 2 ^ 32 → five r ≡ 0
multiple r small = five_of_bits 32 r (omega arith) small
