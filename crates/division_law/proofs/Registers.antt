-- Registers that are numbers.
use Rattle.std.proofs.Common.{ℕ, zero, suc, List, [], ◌∷◌, ◌++◌, ◌≡◌, ◌+◌, ◌-◌, ◌*◌, ◌/◌, ◌%◌, ◌^◌, ◌<◌, ◌≤◌, ◌==◌, length, refl, ap, ap₂, sym, subst, ◌∙◌, arith, Bool, true, false, bit_xor, inl, inr, lit<}
use Rattle.std.specs.Prelude.{replicate, if◌then◌else◌}
use Rattle.std.specs.Int.{bit_at}
use Rattle.std.specs.Int.Bits.{xor_lt}
use Rattle.std.proofs.lemmas.Bool.{cases_lt, lt-ltb, le-ltb}
use Rattle.std.proofs.lemmas.Nat.Bits.{bit_at-suc, bit_at_lowest, bit_at_above, bit_at_cat_high}
use Rattle.std.proofs.Math.Pow.{pow_pos, shl_lt}
use Rattle.std.proofs.Math.Nat.{pow-suc, mod-eq_of_lt}
use Rattle.std.proofs.lemmas.Nat.{xor_comm}
use Rattle.wire_spec.specs.BitPolynomials.{added_front, bits, number_of}
use Rattle.wire_spec.specs.Bytes.{AreBytes}
use Rattle.wire_spec.specs.Crc.{bits_of, crc_remainder, crc32_remainder, crc8_remainder}
use Rattle.division_law.specs.Registers.{register_step, register_steps, crc32_byte, crc8_byte, crc32_run, crc8_run}
use Rattle.division_law.proofs.Fronts.{sum_false, added_behind, added_comm}
use Rattle.division_law.proofs.Lines.{bits_more, length-bits, bits-xor, bits_shifted, bits_above, bits-mod, number_of-bits}
use Rattle.division_law.proofs.Division.{fed, run, remainder_is_run, run-append, run_moved}

-- the bits of a double
pub bits_twice : (k r : ℕ) → bits (suc k) (r * 2) ≡ bits k r ++ false ∷ []
bits_twice k r =
    let low : bit_at (r * 2) 0 ≡ 0 = bit_at_lowest (r * 2) ∙ (omega arith) in
    let half : r * 2 / 2 ≡ r = omega arith in
    bits_shifted k (r * 2) r low (λ i h. bit_at-suc (r * 2) i ∙ ap (λ t. bit_at t i) half)

-- below 2^k the bit of place k is 0
top_low : (k r : ℕ) → r < 2 ^ k → (bit_at r k == 1) ≡ false
top_low k r low = ap (λ t. t == 1) (bit_at_above r k k low (omega arith))

-- from 2^k to 2^(k + 1) the bit of place k is 1
top_high : (k r : ℕ) → r < 2 ^ suc k → 2 ^ k ≤ r → (bit_at r k == 1) ≡ true
top_high k r small low =
    let width : 2 ^ suc k ≡ 2 ^ k * 2 = pow-suc 2 k in
    let parts : r ≡ 1 * 2 ^ k + (r - 2 ^ k) = omega arith in
    let none : k - k ≡ 0 = omega arith in
    ap (λ t. bit_at t k == 1) parts ∙ ap (λ t. t == 1) (bit_at_cat_high 1 k (r - 2 ^ k) k (omega arith) (omega arith)) ∙ ap (λ i. bit_at 1 i == 1) none

-- a shift that pushes out a 0 doubles
pub step_low : (k poly r : ℕ) → r < 2 ^ k → register_step k poly r ≡ r * 2
step_low k poly r low = ap (λ t. if t then r * 2 else bit_xor (r * 2 % 2 ^ suc k) poly) (lt-ltb r (2 ^ k) low)

-- a shift that pushes out a 1 drops it and adds the polynomial
pub step_high : (k poly r : ℕ) → 2 ^ k ≤ r → register_step k poly r ≡ bit_xor (r * 2 % 2 ^ suc k) poly
step_high k poly r high = ap (λ t. if t then r * 2 else bit_xor (r * 2 % 2 ^ suc k) poly) (le-ltb r (2 ^ k) high)

-- a shift of the number is a step of the list
pub fed_zero : (k poly r : ℕ) → r < 2 ^ suc k → fed (bits (suc k) poly) (bits (suc k) r) false ≡ bits (suc k) (register_step k poly r)
fed_zero k poly r small =
    let d : List Bool = bits (suc k) poly in
    let s : List Bool = bits k r ++ false ∷ [] in
    let begin : fed d (bits (suc k) r) false ≡ (if (bit_at r k == 1) then added_front d s else s) =
    ap (λ l. fed d l false) (bits_more k r) ∙ ap (λ (t : Bool). if t then added_front d s else s) (sum_false (bit_at r k == 1)) in
    let low : r < 2 ^ k → fed d (bits (suc k) r) false ≡ bits (suc k) (register_step k poly r) = λ lt.
    begin ∙ ap (λ (t : Bool). if t then added_front d s else s) (top_low k r lt) ∙ sym (bits_twice k r) ∙ ap (λ t. bits (suc k) t) (sym (step_low k poly r lt)) in
    let high : 2 ^ k ≤ r → fed d (bits (suc k) r) false ≡ bits (suc k) (register_step k poly r) = λ le.
    let whole : bits (suc k) (r * 2 % 2 ^ suc k) ≡ s = bits-mod (suc k) (r * 2) ∙ bits_twice k r in
    begin ∙ ap (λ (t : Bool). if t then added_front d s else s) (top_high k r small le)
    ∙ added_comm d s (length-bits (suc k) poly ∙ sym (length-bits (suc k) (r * 2)) ∙ ap (λ (l : List Bool). length l) (bits_twice k r))
    ∙ ap (λ l. added_front l d) (sym whole)
    ∙ sym (bits-xor (suc k) (r * 2 % 2 ^ suc k) poly)
    ∙ ap (λ t. bits (suc k) t) (sym (step_high k poly r le)) in
    elim (cases_lt r (2 ^ k)) [ inl lt ↦ low lt | inr le ↦ high le ]

-- a shift keeps the register's width
pub step_fits : (k poly r : ℕ) → r < 2 ^ suc k → poly < 2 ^ suc k → register_step k poly r < 2 ^ suc k
step_fits k poly r small fits =
    let width : 2 ^ suc k ≡ 2 ^ k * 2 = pow-suc 2 k in
    let positive : 0 < 2 ^ suc k = pow_pos (suc k) in
    let moved_fits : r * 2 % 2 ^ suc k < 2 ^ suc k = omega arith in
    elim (cases_lt r (2 ^ k)) [
      | inl lt ↦ subst (λ t. t < 2 ^ suc k) (sym (step_low k poly r lt)) (omega arith)
      | inr le ↦ subst (λ t. t < 2 ^ suc k) (sym (step_high k poly r le)) (xor_lt (suc k) (r * 2 % 2 ^ suc k) poly moved_fits fits)
    ]

-- no shift
pub steps_none : (k poly r : ℕ) → register_steps k poly 0 r ≡ r
unfolding register_steps
steps_none k poly r = refl

-- one shift, and then the others
pub steps_more : (k poly n r : ℕ) → register_steps k poly (suc n) r ≡ register_steps k poly n (register_step k poly r)
unfolding register_steps
steps_more k poly n r = refl

-- shifts keep the register's width
pub steps_fit : (k poly n r : ℕ) → r < 2 ^ suc k → poly < 2 ^ suc k → register_steps k poly n r < 2 ^ suc k
steps_fit k poly zero r small fits = subst (λ t. t < 2 ^ suc k) (sym (steps_none k poly r)) small
steps_fit k poly (suc n) r small fits = subst (λ t. t < 2 ^ suc k) (sym (steps_more k poly n r)) (steps_fit k poly n (register_step k poly r) (step_fits k poly r small fits) fits)

-- n shifts
pub run_zeros : (k poly n r : ℕ) → r < 2 ^ suc k → poly < 2 ^ suc k
    → run (bits (suc k) poly) (bits (suc k) r) (replicate n false) ≡ bits (suc k) (register_steps k poly n r)
run_zeros k poly zero r small fits = ap (λ t. bits (suc k) t) (sym (steps_none k poly r))
run_zeros k poly (suc n) r small fits =
    ap (λ l. run (bits (suc k) poly) l (replicate n false)) (fed_zero k poly r small)
    ∙ run_zeros k poly n (register_step k poly r) (step_fits k poly r small fits) fits
    ∙ ap (λ t. bits (suc k) t) (sym (steps_more k poly n r))

-- a byte of j bits that comes in, added at the top first
pub run_byte : (k j up poly r byte : ℕ) → suc k ≡ j + up → r < 2 ^ suc k → byte < 2 ^ j → poly < 2 ^ suc k
    → run (bits (suc k) poly) (bits (suc k) r) (bits j byte) ≡ bits (suc k) (register_steps k poly j (bit_xor r (byte * 2 ^ up)))
run_byte k j up poly r byte width small byte_fits fits =
    let d : List Bool = bits (suc k) poly in
    let s : List Bool = bits (suc k) r in
    let b : List Bool = bits j byte in
    let divisor_long : length d ≡ suc k = length-bits (suc k) poly in
    let start_long : length s ≡ suc k = length-bits (suc k) r in
    let byte_long : length b ≡ j = length-bits j byte in
    let high : bits (suc k) (byte * 2 ^ up) ≡ b ++ replicate up false = bits_above (suc k) j up byte width in
    let sum : added_front b s ≡ bits (suc k) (bit_xor r (byte * 2 ^ up)) =
    sym (added_behind up b s) ∙ ap (λ l. added_front l s) (sym high) ∙ sym (bits-xor (suc k) (byte * 2 ^ up) r) ∙ ap (λ t. bits (suc k) t) (xor_comm (byte * 2 ^ up) r) in
    let room : byte * 2 ^ up < 2 ^ suc k = subst (λ t. byte * 2 ^ up < 2 ^ t) (sym width) (shl_lt j up byte_fits) in
    run_moved d s b (divisor_long ∙ sym start_long) (omega arith) (omega arith)
    ∙ ap₂ (λ l n. run d l (replicate n false)) sum byte_long
    ∙ run_zeros k poly j (bit_xor r (byte * 2 ^ up)) (xor_lt (suc k) r (byte * 2 ^ up) small room) fits

-- a register over bytes is division, where one byte's step is a run of its bits
pub bytes_run : (k poly : ℕ) (step : ℕ → ℕ → ℕ) (over : ℕ → List ℕ → ℕ)
    → ((r : ℕ) → over r [] ≡ r) → ((r byte : ℕ) (bytes : List ℕ) → over r (byte ∷ bytes) ≡ over (step r byte) bytes)
    → ((r byte : ℕ) → r < 2 ^ suc k → byte < 2 ^ 8 → (run (bits (suc k) poly) (bits (suc k) r) (bits 8 byte) ≡ bits (suc k) (step r byte)) × (step r byte < 2 ^ suc k))
    → (bytes : List ℕ) (r : ℕ) → r < 2 ^ suc k → AreBytes bytes
    → (run (bits (suc k) poly) (bits (suc k) r) (bits_of bytes) ≡ bits (suc k) (over r bytes)) × (over r bytes < 2 ^ suc k)
bytes_run k poly step over none more one [] r small all = (ap (λ t. bits (suc k) t) (sym (none r)), subst (λ t. t < 2 ^ suc k) (sym (none r)) small)
bytes_run k poly step over none more one (byte ∷ bytes) r small all =
    let fits : byte < 2 ^ 8 = all 0 0 (omega arith) in
    let first = one r byte small fits in
    let rest : (run (bits (suc k) poly) (bits (suc k) (step r byte)) (bits_of bytes) ≡ bits (suc k) (over (step r byte) bytes)) × (over (step r byte) bytes < 2 ^ suc k) =
    bytes_run k poly step over none more one bytes (step r byte) first.1 (λ i d lt. all (suc i) d (omega arith)) in (
      run-append (bits (suc k) poly) (bits (suc k) r) (bits 8 byte) (bits_of bytes)
          ∙ ap (λ l. run (bits (suc k) poly) l (bits_of bytes)) first.0
          ∙ rest.0 ∙ ap (λ t. bits (suc k) t) (sym (more r byte bytes)),
      subst (λ t. t < 2 ^ suc k) (sym (more r byte bytes)) rest.1,
    )

-- where the register of bits ends at a number, that number is the remainder
remainder_of : (k poly r result : ℕ) (bytes : List ℕ) → r < 2 ^ suc k → result < 2 ^ suc k
    → run (bits (suc k) poly) (bits (suc k) r) (bits_of bytes) ≡ bits (suc k) result
    → crc_remainder (suc k) (true ∷ bits (suc k) poly) r bytes ≡ result
unfolding crc_remainder
remainder_of k poly r result bytes start_small fits same =
    let small : result % 2 ^ suc k ≡ result = mod-eq_of_lt fits in
    ap (λ l. number_of l) (remainder_is_run (bits (suc k) poly) (bits (suc k) r) (bits_of bytes) (suc k) (length-bits (suc k) poly) (length-bits (suc k) r) (omega arith) ∙ same)
    ∙ number_of-bits (suc k) result ∙ small

-- the polynomial of CRC_32 begins with 1
crc32_divisor : bits 33 0x1_04C1_1DB7 ≡ true ∷ bits 32 0x04C1_1DB7
unfolding bits
crc32_divisor = refl

-- the polynomial of CRC-8 begins with 1
crc8_divisor : bits 9 0x1D5 ≡ true ∷ bits 8 0xD5
unfolding bits
crc8_divisor = refl

-- one byte's step of CRC_32 is a run over its bits, and keeps 32 bits
pub crc32_byte_is : (r byte : ℕ) → r < 2 ^ 32 → byte < 2 ^ 8
    → (run (bits 32 0x04C1_1DB7) (bits 32 r) (bits 8 byte) ≡ bits 32 (crc32_byte r byte)) × (crc32_byte r byte < 2 ^ 32)
unfolding crc32_byte
crc32_byte_is r byte small byte_fits =
    (run_byte 31 8 24 0x04C1_1DB7 r byte refl small byte_fits (lit< tt), steps_fit 31 0x04C1_1DB7 8 (bit_xor r (byte * 2 ^ 24)) (xor_lt 32 r (byte * 2 ^ 24) small (omega arith)) (lit< tt))

-- one byte's step of CRC-8 is a run over its bits, and keeps 8 bits
crc8_byte_is : (r byte : ℕ) → r < 2 ^ 8 → byte < 2 ^ 8
    → (run (bits 8 0xD5) (bits 8 r) (bits 8 byte) ≡ bits 8 (crc8_byte r byte)) × (crc8_byte r byte < 2 ^ 8)
unfolding crc8_byte
crc8_byte_is r byte small byte_fits =
    let alone : byte * 2 ^ 0 ≡ byte = omega arith in (
      run_byte 7 8 0 0xD5 r byte refl small byte_fits (lit< tt) ∙ ap (λ t. bits 8 (register_steps 7 0xD5 8 (bit_xor r t))) alone,
      steps_fit 7 0xD5 8 (bit_xor r byte) (xor_lt 8 r byte small byte_fits) (lit< tt),
    )

-- the register of CRC_32 over bytes in two pieces
pub crc32_run-append : (r : ℕ) (front back : List ℕ) → crc32_run r (front ++ back) ≡ crc32_run (crc32_run r front) back
crc32_run-append r [] back = refl
crc32_run-append r (x ∷ front) back = crc32_run-append (crc32_byte r x) front back

-- the register of CRC_32 over bytes is a run over their bits, and keeps 32 bits
pub crc32_run_is : (bytes : List ℕ) (r : ℕ) → r < 2 ^ 32 → AreBytes bytes
    → (run (bits 32 0x04C1_1DB7) (bits 32 r) (bits_of bytes) ≡ bits 32 (crc32_run r bytes)) × (crc32_run r bytes < 2 ^ 32)
crc32_run_is bytes r small all = bytes_run 31 0x04C1_1DB7 crc32_byte crc32_run (λ r. refl) (λ r b bs. refl) crc32_byte_is bytes r small all

-- the register of CRC_32 ends at the remainder
pub crc32_law : (start : ℕ) (bytes : List ℕ) → start < 2 ^ 32 → AreBytes bytes → crc32_run start bytes ≡ crc32_remainder start bytes
crc32_law start bytes small all =
    let it = crc32_run_is bytes start small all in
    sym (remainder_of 31 0x04C1_1DB7 start (crc32_run start bytes) bytes small it.1 it.0) ∙ ap (λ p. crc_remainder 32 p start bytes) (sym crc32_divisor)

-- the register of CRC-8 ends at the remainder
pub crc8_law : (bytes : List ℕ) → AreBytes bytes → crc8_run 0 bytes ≡ crc8_remainder bytes
crc8_law bytes all =
    let it = bytes_run 7 0xD5 crc8_byte crc8_run (λ r. refl) (λ r b bs. refl) crc8_byte_is bytes 0 (lit< tt) all in
    sym (remainder_of 7 0xD5 0 (crc8_run 0 bytes) bytes (lit< tt) it.1 it.0) ∙ ap (λ p. crc_remainder 8 p 0 bytes) (sym crc8_divisor)
