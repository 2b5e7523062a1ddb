-- A check sum after its bytes (ISO/IEC 13818-1 annex A).
use Rattle.std.specs.Prelude.{ℕ, List, [], ◌∷◌, ◌/◌, ◌%◌, ◌^◌}

-- the four bytes of a number below 2 ^ 32, the most significant first (ISO/IEC 13818-1 annex A)
abbrev pub four_bytes : ℕ → List ℕ
four_bytes r = r / 2 ^ 24 ∷ r / 2 ^ 16 % 2 ^ 8 ∷ r / 2 ^ 8 % 2 ^ 8 ∷ r % 2 ^ 8 ∷ []
