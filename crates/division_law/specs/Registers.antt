-- The shift register that computes a check sum, as the standards draw it: the most significant bit leaves,
-- and where it was 1 the polynomial is added (ISO/IEC 13818-1 annex A, EN 302 307-1 clause 5.1.4).
use Rattle.std.specs.Prelude.{ℕ, List, [], ◌∷◌, ◌*◌, ◌%◌, ◌^◌, zero, suc, nat_lt, bit_xor, if◌then◌else◌}

-- a register of k + 1 bits after one shift, where poly is the polynomial without its first bit (ISO/IEC 13818-1 annex A, EN 302 307-1 clause 5.1.4)
abbrev pub register_step : ℕ → ℕ → ℕ → ℕ
register_step k poly r = if nat_lt r (2 ^ k) then r * 2 else bit_xor (r * 2 % 2 ^ suc k) poly

-- the register after n shifts (ISO/IEC 13818-1 annex A, EN 302 307-1 clause 5.1.4)
unfoldable pub register_steps : ℕ → ℕ → ℕ → ℕ → ℕ
register_steps k poly zero r = r
register_steps k poly (suc n) r = register_steps k poly n (register_step k poly r)

-- CRC_32: the register after one byte, which is added to its highest eight bits before eight shifts (ISO/IEC 13818-1 annex A)
unfoldable pub crc32_byte : ℕ → ℕ → ℕ
crc32_byte r byte = register_steps 31 0x04C1_1DB7 8 (bit_xor r (byte * 2 ^ 24))

-- CRC-8: the register after one byte (EN 302 307-1 clause 5.1.4)
unfoldable pub crc8_byte : ℕ → ℕ → ℕ
crc8_byte r byte = register_steps 7 0xD5 8 (bit_xor r byte)

-- CRC_32: the register after bytes (ISO/IEC 13818-1 annex A)
abbrev pub crc32_run : ℕ → List ℕ → ℕ
crc32_run r [] = r
crc32_run r (byte ∷ bytes) = crc32_run (crc32_byte r byte) bytes

-- CRC-8: the register after bytes (EN 302 307-1 clause 5.1.4)
abbrev pub crc8_run : ℕ → List ℕ → ℕ
crc8_run r [] = r
crc8_run r (byte ∷ bytes) = crc8_run (crc8_byte r byte) bytes
