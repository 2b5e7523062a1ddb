-- The tables of CRC-32: many shifts of its register at once (ISO/IEC 13818-1 annex A).
use Rattle.std.specs.Prelude.{ℕ, List, [], ◌∷◌, ◌+◌, ◌*◌, ◌^◌, length, bit_xor}
use Rattle.division_law.specs.Registers.{register_steps}

-- what n shifts leave of a register that has the byte in its highest bits and else zeros
unfoldable pub crc32_entry : ℕ → ℕ → ℕ
crc32_entry n byte = register_steps 31 0x04C1_1DB7 n (byte * 2 ^ 24)

-- the entries of bytes added, each after its own 8 shifts and those of the bytes after it
abbrev pub entries : List ℕ → ℕ
entries [] = 0
entries (byte ∷ rest) = bit_xor (crc32_entry (8 + 8 * length rest) byte) (entries rest)
