-- Division by x^2400+x^1240+x^936+x^712+1, a multiple of CRC_32's generator polynomial, a byte at a time.
use Rattle.std.specs.Prelude.{ℕ, List, ◌≡◌, ◌+◌, ◌<◌, ◌≤◌, length, slice_index, bit_xor}
use Rattle.wire_spec.specs.Bytes.{AreBytes}
use Rattle.std.specs.Int.{w32, to_be_bytes}

-- what is left of the byte at a place when the terms of the quotient's bytes 145, 183, 211 and 300 places earlier are subtracted
abbrev pub left_at : List ℕ → ℕ → ℕ → ℕ
left_at window place byte =
    bit_xor (bit_xor (bit_xor (bit_xor byte (slice_index window (place + 155))) (slice_index window (place + 117))) (slice_index window (place + 89))) (slice_index window place)

-- the window of bytes: the register's four bytes, zeros up to place 300, the quotient, and zeros
pub record IsWindow (register : ℕ) (message window : List ℕ) : Type 0 where
  pub bytes : AreBytes window
  pub own : (i : ℕ) → i < 4 → slice_index window i ≡ slice_index (to_be_bytes w32 register) i
  pub before : (i : ℕ) → 4 ≤ i → i < 300 → slice_index window i ≡ 0
  pub quotient : (i : ℕ) → i < length message → slice_index window (i + 300) ≡ left_at window i (slice_index message i)
  pub behind : (i : ℕ) → length message + 300 ≤ i → slice_index window i ≡ 0
