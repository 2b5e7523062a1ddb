-- Codewords of the row code of MPE-FEC (EN 301 192 clause 9): 191 data bytes, then 64 parity bytes.
use Rattle.std.specs.Prelude.{ℕ, List, [], ◌∷◌, ◌≡◌, ◌<◌, length}
use Rattle.wire_spec.specs.Bytes.{AreBytes}
use Rattle.fec_spec.specs.Field.{field_sum, field_product, field_power}

-- the value of a row at z: the sum of its bytes, each times z to the power of the number of bytes after it (EN 301 192 clause 9)
unfoldable pub row_value : ℕ → List ℕ → ℕ
row_value z [] = 0
row_value z (c ∷ row) = field_sum (field_product c (field_power z (length row))) (row_value z row)

-- 255 bytes, the first the coefficient of x^254, and zero at the powers 0 to 63 of 2 (EN 301 192 clause 9)
pub record IsCodeword (row : List ℕ) : Type 0 where
  pub long : length row ≡ 255
  pub bytes : AreBytes row
  pub zeros : (m : ℕ) → m < 64 → row_value (field_power 2 m) row ≡ 0
