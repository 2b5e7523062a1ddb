-- The register of CRC_32 over pieces, and over bytes with a check sum after them.
use Rattle.std.proofs.Common.{ℕ, zero, suc, List, [], ◌∷◌, ◌++◌, ◌≡◌, ◌+◌, ◌*◌, ◌/◌, ◌%◌, ◌^◌, ◌<◌, ◌==◌, inl, inr, refl, ap, ap₂, sym, ◌∙◌, arith, lit<, Bool, bit_xor}
use Rattle.std.specs.Int.{bit_at}
use Rattle.std.specs.Int.Bits.{xor_lt, xor_self, xor_zero_r}
use lib.Bits.{xor_assoc}
use Rattle.std.proofs.lemmas.Bool.{cases_lt}
use Rattle.std.proofs.lemmas.List.{append-nil}
use Rattle.std.proofs.lemmas.List.Elements.{All-append, All-cons}
use Rattle.std.proofs.lemmas.Nat.{shr-shr, xor_comm}
use Rattle.wire_spec.specs.Bytes.{AreBytes}
use Rattle.wire_spec.specs.BitPolynomials.{bits}
use Rattle.wire_spec.specs.Crc.{bits_of, crc32_remainder}
use Rattle.division_law.specs.Registers.{register_step, register_steps, crc32_run}
use Rattle.division_law.proofs.Lines.{bits_none, bits_more, bits-mod}
use Rattle.division_law.proofs.Division.{run}
use Rattle.division_law.proofs.Linear.{bits_equal}
use Rattle.division_law.proofs.Registers.{step_low, step_high, steps_none, steps_more, steps_fit, run_byte, crc32_run_is, crc32_run-append, crc32_law}
use Rattle.crc_law.specs.Whole.{four_bytes}
use Rattle.crc_law.proofs.CheckSum.{crc32_below}

-- a message in two pieces
pub remainder-append : (r : ℕ) (a b : List ℕ) → r < 2 ^ 32 → AreBytes a → AreBytes b → crc32_remainder r (a ++ b) ≡ crc32_remainder (crc32_remainder r a) b
remainder-append r a b small front back =
    let first = crc32_run_is a r small front in
    sym (crc32_law r (a ++ b) small (All-append (λ x. x < 2 ^ 8) a b front back))
    ∙ crc32_run-append r a b
    ∙ crc32_law (crc32_run r a) b (first.1) back
    ∙ ap (λ t. crc32_remainder t b) (crc32_law r a small front)

-- the bits of a number, cut in two
bits_split : (n j k r : ℕ) → n ≡ j + k → bits n r ≡ bits j (r / 2 ^ k) ++ bits k r
bits_split n zero k r width =
    let left : n ≡ k = omega arith in ap (λ m. bits m r) left ∙ ap (λ (l : List Bool). l ++ bits k r) (sym (bits_none (r / 2 ^ k)))
bits_split zero (suc j) k r width = absurd (omega arith)
bits_split (suc n) (suc j) k r width =
    let left : k + j ≡ n = omega arith in
    let top : bit_at r n ≡ bit_at (r / 2 ^ k) j = ap (λ t. t % 2) (sym (shr-shr r k j ∙ ap (λ m. r / 2 ^ m) left)) in
    bits_more n r ∙ ap₂ (λ (x : ℕ) (l : List Bool). (x == 1) ∷ l) top (bits_split n j k r (omega arith))
    ∙ ap (λ (l : List Bool). l ++ bits k r) (sym (bits_more j (r / 2 ^ k)))

-- the bits of a number's four bytes are its bits
four_bits : (r : ℕ) → bits_of (four_bytes r) ≡ bits 32 r
four_bits r =
    let lowest : bits 8 (r % 2 ^ 8) ++ [] ≡ bits 8 r = append-nil (bits 8 (r % 2 ^ 8)) ∙ bits-mod 8 r in
    let lower : bits 8 (r / 2 ^ 8 % 2 ^ 8) ++ (bits 8 (r % 2 ^ 8) ++ []) ≡ bits 16 r =
    ap₂ (λ (x y : List Bool). x ++ y) (bits-mod 8 (r / 2 ^ 8)) lowest ∙ sym (bits_split 16 8 8 r refl) in
    let low : bits 8 (r / 2 ^ 16 % 2 ^ 8) ++ (bits 8 (r / 2 ^ 8 % 2 ^ 8) ++ (bits 8 (r % 2 ^ 8) ++ [])) ≡ bits 24 r =
    ap₂ (λ (x y : List Bool). x ++ y) (bits-mod 8 (r / 2 ^ 16)) lower ∙ sym (bits_split 24 8 16 r refl) in
    ap (λ (y : List Bool). bits 8 (r / 2 ^ 24) ++ y) low ∙ sym (bits_split 32 8 24 r refl)

-- the four are bytes
four_small : (r : ℕ) → r < 2 ^ 32 → AreBytes (four_bytes r)
four_small r small =
    let first : r / 2 ^ 24 < 2 ^ 8 = omega arith in
    let second : r / 2 ^ 16 % 2 ^ 8 < 2 ^ 8 = omega arith in
    let third : r / 2 ^ 8 % 2 ^ 8 < 2 ^ 8 = omega arith in
    let fourth : r % 2 ^ 8 < 2 ^ 8 = omega arith in
    let one : List ℕ = r % 2 ^ 8 ∷ [] in
    let two : List ℕ = r / 2 ^ 8 % 2 ^ 8 ∷ one in
    let three : List ℕ = r / 2 ^ 16 % 2 ^ 8 ∷ two in
    All-cons (λ x. x < 2 ^ 8) (r / 2 ^ 24) three first (All-cons (λ x. x < 2 ^ 8) (r / 2 ^ 16 % 2 ^ 8) two second
    (All-cons (λ x. x < 2 ^ 8) (r / 2 ^ 8 % 2 ^ 8) one third (All-cons (λ x. x < 2 ^ 8) (r % 2 ^ 8) [] fourth (λ k d lt. absurd (omega arith)))))

-- four bytes added to a register, and 32 shifts
run_over_four : (q last : ℕ) → q < 2 ^ 32 → last < 2 ^ 32 → crc32_run q (four_bytes last) ≡ register_steps 31 0x04C1_1DB7 32 (bit_xor q last)
run_over_four q last small fits =
    let it = crc32_run_is (four_bytes last) q small (four_small last fits) in
    let alone : last * 2 ^ 0 ≡ last = omega arith in
    bits_equal 32 (crc32_run q (four_bytes last)) (register_steps 31 0x04C1_1DB7 32 (bit_xor q last)) (it.1)
    (steps_fit 31 0x04C1_1DB7 32 (bit_xor q last) (xor_lt 32 q last small fits) (lit< tt))
    (sym (it.0) ∙ ap (λ l. run (bits 32 0x04C1_1DB7) (bits 32 q) l) (four_bits last)
    ∙ run_byte 31 32 0 0x04C1_1DB7 q last refl small fits (lit< tt)
    ∙ ap (λ t. bits 32 (register_steps 31 0x04C1_1DB7 32 (bit_xor q t))) alone)

-- the register over bytes with a number after them, where q is the register after the bytes
over_unit : (r last : ℕ) (bytes : List ℕ) → r < 2 ^ 32 → last < 2 ^ 32 → AreBytes bytes
    → crc32_remainder r (bytes ++ four_bytes last) ≡ register_steps 31 0x04C1_1DB7 32 (bit_xor (crc32_remainder r bytes) last)
over_unit r last bytes small fits all =
    let q : ℕ = crc32_run r bytes in
    let first = crc32_run_is bytes r small all in
    remainder-append r bytes (four_bytes last) small all (four_small last fits)
    ∙ ap (λ t. crc32_remainder t (four_bytes last)) (sym (crc32_law r bytes small all))
    ∙ sym (crc32_law q (four_bytes last) (first.1) (four_small last fits))
    ∙ run_over_four q last (first.1) fits
    ∙ ap (λ t. register_steps 31 0x04C1_1DB7 32 (bit_xor t last)) (crc32_law r bytes small all)

-- a register of 0 stays 0
steps_zero : (n : ℕ) → register_steps 31 0x04C1_1DB7 n 0 ≡ 0
steps_zero zero = steps_none 31 0x04C1_1DB7 0
steps_zero (suc n) = steps_more 31 0x04C1_1DB7 n 0 ∙ steps_zero n

-- over the whole unit, its check sum included, the register ends at 0
pub whole_zero : (r : ℕ) (bytes : List ℕ) → r < 2 ^ 32 → AreBytes bytes → crc32_remainder r (bytes ++ four_bytes (crc32_remainder r bytes)) ≡ 0
whole_zero r bytes small all =
    let q : ℕ = crc32_remainder r bytes in
    over_unit r q bytes small (crc32_below r bytes) all
    ∙ ap (λ t. register_steps 31 0x04C1_1DB7 32 t) (xor_self q) ∙ steps_zero 32

-- numbers with the same bits are equal, said by their exclusive or
xor_none : (a b : ℕ) → bit_xor a b ≡ 0 → a ≡ b
xor_none a b none = sym (xor_zero_r a) ∙ ap (λ t. bit_xor a t) (sym (xor_self b)) ∙ sym (xor_assoc a b b) ∙ ap (λ t. bit_xor t b) none ∙ xor_comm 0 b ∙ xor_zero_r b

-- only a register of 0 is shifted to 0, since the polynomial is odd
step_to_zero : (r : ℕ) → register_step 31 0x04C1_1DB7 r ≡ 0 → r ≡ 0
step_to_zero r ends = elim (cases_lt r (2 ^ 31)) [
  | inl lt ↦ let double : r * 2 ≡ 0 = sym (step_low 31 0x04C1_1DB7 r lt) ∙ ends in omega arith
  | inr le ↦ let double : r * 2 % 2 ^ 32 ≡ 0x04C1_1DB7 = xor_none (r * 2 % 2 ^ 32) 0x04C1_1DB7 (sym (step_high 31 0x04C1_1DB7 r le) ∙ ends) in absurd (omega arith)
]

-- the same of n shifts
steps_to_zero : (n r : ℕ) → register_steps 31 0x04C1_1DB7 n r ≡ 0 → r ≡ 0
steps_to_zero zero r ends = sym (steps_none 31 0x04C1_1DB7 r) ∙ ends
steps_to_zero (suc n) r ends = step_to_zero r (steps_to_zero n (register_step 31 0x04C1_1DB7 r) (sym (steps_more 31 0x04C1_1DB7 n r) ∙ ends))

-- where the register ends at 0, the last four bytes are the check sum
pub whole_only : (r last : ℕ) (bytes : List ℕ) → r < 2 ^ 32 → last < 2 ^ 32 → AreBytes bytes
    → crc32_remainder r (bytes ++ four_bytes last) ≡ 0 → last ≡ crc32_remainder r bytes
whole_only r last bytes small fits all ends =
    let q : ℕ = crc32_remainder r bytes in
    sym (xor_none q last (steps_to_zero 32 (bit_xor q last) (sym (over_unit r last bytes small fits all) ∙ ends)))
