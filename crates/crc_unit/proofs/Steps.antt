-- A byte's step by the table.
use Rattle.std.proofs.Common.{ℕ, zero, suc, ◌≡◌, ◌+◌, ◌*◌, ◌/◌, ◌%◌, ◌^◌, ◌<◌, ◌≤◌, ap, ap₂, sym, ◌∙◌, arith, lit<, bit_xor}
use Rattle.std.specs.Int.Bits.{xor_lt, xor_zero_r, xor_block, xor_shifted}
use Rattle.std.proofs.lemmas.Nat.{xor_comm}
use Rattle.std.proofs.Math.Nat.{pow-suc, mul-le-mul_left}
use Rattle.std.proofs.Math.Pow.{pow_pos}
use Rattle.division_law.specs.Registers.{register_steps, crc32_byte}
use Rattle.division_law.proofs.Registers.{step_low, steps_none, steps_more}
use Rattle.division_law.proofs.Linear.{steps_xor}
use Rattle.crc_unit.specs.Entry.{crc32_entry}

-- a factor of 1 or more can be left out of a bound
half : (r p n : ℕ) → 0 < p → r * 2 * p < n * 2 → r < n
half r p n positive below =
    let more : r * 2 * 1 ≤ r * 2 * p = mul-le-mul_left (r * 2) (omega arith) in
    omega arith

-- shifts that lose no bit
pub steps_low : (k poly n r : ℕ) → r * 2 ^ n < 2 ^ suc k → register_steps k poly n r ≡ r * 2 ^ n
steps_low k poly zero r fits = steps_none k poly r ∙ (omega arith)
steps_low k poly (suc n) r fits =
    let later : r * 2 ^ suc n ≡ r * 2 * 2 ^ n = ap (λ t. r * t) (pow-suc 2 n) ∙ (grind arith) in
    let width : 2 ^ suc k ≡ 2 ^ k * 2 = pow-suc 2 k in
    let positive : 0 < 2 ^ n = pow_pos n in
    let low : r < 2 ^ k = half r (2 ^ n) (2 ^ k) positive (omega arith) in
    steps_more k poly n r ∙ ap (λ t. register_steps k poly n t) (step_low k poly r low) ∙ steps_low k poly n (r * 2) (omega arith) ∙ sym later

-- a byte's step by the table: the entry at the highest byte with the new one added, and the other bytes moved up
pub by_entry : (r byte : ℕ) → r < 2 ^ 32 → byte < 2 ^ 8
    → bit_xor (r * 2 ^ 8 % 2 ^ 32) (crc32_entry 8 (bit_xor (r / 2 ^ 24) byte)) ≡ crc32_byte r byte
unfolding crc32_entry crc32_byte
by_entry r byte small fits =
    let top : ℕ = r / 2 ^ 24 in
    let low : ℕ = r % 2 ^ 24 in
    let index : ℕ = bit_xor top byte in
    let parts : r ≡ top * 2 ^ 24 + low = omega arith in
    let top_fits : top < 2 ^ 8 = omega arith in
    let low_fits : low < 2 ^ 24 = omega arith in
    let index_fits : index < 2 ^ 8 = xor_lt 8 top byte top_fits fits in
    let high_fits : index * 2 ^ 24 < 2 ^ 32 = omega arith in
    let low_small : low < 2 ^ 32 = omega arith in
    let alone : byte * 2 ^ 24 ≡ byte * 2 ^ 24 + 0 = omega arith in
    let whole : bit_xor r (byte * 2 ^ 24) ≡ index * 2 ^ 24 + low =
    ap₂ (λ x y. bit_xor x y) parts alone ∙ xor_block 24 top byte low 0 low_fits (lit< tt) ∙ ap (λ t. index * 2 ^ 24 + t) (xor_zero_r low) in
    let split : bit_xor (index * 2 ^ 24) low ≡ index * 2 ^ 24 + low = xor_shifted index 24 low low_fits in
    let moved_fits : low * 2 ^ 8 < 2 ^ 32 = omega arith in
    let moved : r * 2 ^ 8 % 2 ^ 32 ≡ low * 2 ^ 8 = omega arith in
    sym (ap (λ t. register_steps 31 0x04C1_1DB7 8 t) (whole ∙ sym split)
    ∙ steps_xor 31 0x04C1_1DB7 8 (index * 2 ^ 24) low high_fits low_small (lit< tt)
    ∙ ap (λ t. bit_xor (register_steps 31 0x04C1_1DB7 8 (index * 2 ^ 24)) t) (steps_low 31 0x04C1_1DB7 8 low moved_fits ∙ sym moved)
    ∙ xor_comm (register_steps 31 0x04C1_1DB7 8 (index * 2 ^ 24)) (r * 2 ^ 8 % 2 ^ 32))
