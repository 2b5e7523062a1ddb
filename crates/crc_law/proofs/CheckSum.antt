-- A CRC-32 fits four bytes; bytes with their CRC-32 after them end with it, and fewer than four bytes end with none.
use Rattle.std.proofs.Common.{◌≡◌, ℕ, zero, suc, ◌+◌, ◌-◌, ◌*◌, ◌/◌, ◌%◌, ◌^◌, ◌<◌, Bool, true, false, List, [], ◌∷◌, ◌++◌, length, take, drop, ap, sym, subst, ◌∙◌, arith, lit<, pow-suc, refl, eq-eqb}
use Rattle.std.specs.Prelude.{slice_index, replicate, if◌then◌else◌, ◌==◌}
use Rattle.std.specs.Int.{w32, to_be_bytes}
use Rattle.std.proofs.lemmas.Bool.{ne_eqb}
use Rattle.std.proofs.lemmas.List.{length-append, length-replicate, length-drop, get_or_past, take_at, get_or-append-add}
use Rattle.std.proofs.lemmas.List.Elements.{All-nil}
use Rattle.wire_spec.specs.Bytes.{u32_at}
use Rattle.wire_spec.specs.BitPolynomials.{bits, number_of, added_front, divided, remainder}
use Rattle.wire_spec.specs.Crc.{bits_of, crc_remainder, crc32_remainder, ends_with_crc}
use Rattle.division_law.proofs.Fronts.{length-added}
use Rattle.division_law.proofs.Lines.{length-bits}
use Rattle.division_law.proofs.Registers.{crc32_law}

-- a step of division drops a bit
length-step : (divisor line : List Bool) (b : Bool) → length (drop 1 (if b then added_front divisor (b ∷ line) else b ∷ line)) ≡ length line
length-step divisor line true = length-drop 1 (added_front divisor (true ∷ line)) ∙ (omega (arith, length-added divisor (true ∷ line)))
length-step divisor line false = refl

length-divided : (n : ℕ) (divisor line : List Bool) → length (divided n divisor line) ≡ length line - n
unfolding divided
length-divided zero divisor line = omega arith
length-divided (suc n) divisor [] = omega arith
length-divided (suc n) divisor (b ∷ line) =
    let rest : List Bool = drop 1 (if b then added_front divisor (b ∷ line) else b ∷ line) in
    omega (arith, length-divided n divisor rest, length-step divisor line b)

-- so many bits are a number below that power of two
number_below : (line : List Bool) → number_of line < 2 ^ length line
number_below [] = omega arith
number_below (true ∷ line) = omega (arith, number_below line, pow-suc 2 (length line))
number_below (false ∷ line) = omega (arith, number_below line, pow-suc 2 (length line))

length-bits_of : (bytes : List ℕ) → length (bits_of bytes) ≡ 8 * length bytes
length-bits_of [] = refl
length-bits_of (byte ∷ bytes) = omega (arith, length-append (bits 8 byte) (bits_of bytes), length-bits 8 byte, length-bits_of bytes)

-- a CRC-32 fits four bytes
pub crc32_below : (start : ℕ) (bytes : List ℕ) → crc32_remainder start bytes < 2 ^ 32
unfolding crc_remainder remainder
crc32_below start bytes =
    let divisor : List Bool = bits 33 0x1_04C1_1DB7 in
    let message : List Bool = bits_of bytes ++ replicate 32 false in
    let line : List Bool = added_front (bits 32 start) message in
    let rest : List Bool = remainder divisor line in
    let whole : length message ≡ 8 * length bytes + 32 =
    omega (arith, length-append (bits_of bytes) (replicate 32 false), length-bits_of bytes, length-replicate 32 false) in
    let left : length rest ≡ 32 =
    omega (arith, length-divided (length line + 1 - length divisor) divisor line, length-added (bits 32 start) message, length-bits 33 0x1_04C1_1DB7) in
    subst (λ n. number_of rest < 2 ^ n) left (number_below rest)

-- the register before the first byte
nothing : crc32_remainder 0xFFFF_FFFF [] ≡ 0xFFFF_FFFF
nothing = sym (crc32_law 0xFFFF_FFFF [] (lit< tt) (All-nil (λ byte. byte < 256)))

-- fewer than four bytes end with a zero, as far as they are read
differs : (bytes : List ℕ) → length bytes < 4 → 0xFFFF_FFFF ≡ u32_at bytes 0 → ⊥
differs bytes few same =
    let last : slice_index bytes 3 ≡ 0 = get_or_past bytes 3 0 (omega arith) in
    omega arith

at_zero : (bytes : List ℕ) (end : ℕ) → end ≡ 0 → length bytes < 4 → (crc32_remainder 0xFFFF_FFFF (take end bytes) == u32_at bytes end) ≡ false
at_zero bytes end none few =
    rw (none, nothing) (ne_eqb 0xFFFF_FFFF (u32_at bytes 0) (differs bytes few))

pub short_has_no_crc : (bytes : List ℕ) → length bytes < 4 → ends_with_crc bytes ≡ false
short_has_no_crc bytes few = at_zero bytes (length bytes - 4) (omega arith) few

-- a place after a front
at_behind : (front back : List ℕ) (place n : ℕ) → place ≡ length front + n → slice_index (front ++ back) place ≡ slice_index back n
at_behind front back place n e = ap (λ (k : ℕ). slice_index (front ++ back) k) e ∙ get_or-append-add front back n 0

-- the number in the bytes that were written of it
four_bytes_told : (n : ℕ) → n < 2 ^ 32 → (n / 16777216 % 256 * 256 + n / 65536 % 256) * 65536 + (n / 256 % 256 * 256 + n % 256) ≡ n
four_bytes_told n below = omega arith

-- the CRC-32 that is written after bytes is the right one
pub written_crc_is_right : (front : List ℕ) → ends_with_crc (front ++ to_be_bytes w32 (crc32_remainder 0xFFFF_FFFF front)) ≡ true
written_crc_is_right front =
    let sum : ℕ = crc32_remainder 0xFFFF_FFFF front in
    let back : List ℕ = to_be_bytes w32 sum in
    let all : List ℕ = front ++ back in
    let end : ℕ = length front in
    let before : length all - 4 ≡ end = omega (arith, length-append front back) in
    let first : slice_index all end ≡ sum / 16777216 % 256 = at_behind front back end 0 (omega arith) in
    let second : slice_index all (end + 1) ≡ sum / 65536 % 256 = at_behind front back (end + 1) 1 refl in
    let third : slice_index all (end + 2) ≡ sum / 256 % 256 = at_behind front back (end + 2) 2 refl in
    let fourth : slice_index all (end + 2 + 1) ≡ sum % 256 = at_behind front back (end + 2 + 1) 3 (omega arith) in
    let told : u32_at all end ≡ sum = rw (first, second, third, fourth) (four_bytes_told sum (crc32_below 0xFFFF_FFFF front)) in
    let right : crc32_remainder 0xFFFF_FFFF (take end all) ≡ u32_at all end =
    ap (crc32_remainder 0xFFFF_FFFF) (take_at front back end refl) ∙ sym told in
    rw before (eq-eqb (crc32_remainder 0xFFFF_FFFF (take end all)) (u32_at all end) right)
