-- A received frame with its rows corrected (EN 301 192 clause 9). Byte j of row r stands at place j × rows + r.
use Rattle.std.specs.Prelude.{◌≡◌, ℕ, ◌+◌, ◌*◌, ◌/◌, ◌%◌, ◌<◌, ◌≤◌, Bool, not, ◌&&◌, List, [], ◌∷◌, length, map, flat_map, filter, find, count_by, slice_index, ◌==◌, nat_lt, nat_le, if◌then◌else◌, Option, Some, None, is_some, is_none}
use Rattle.std.specs.List.{list_all, list_any, range_with_len}
use Rattle.fec_spec.specs.Field.{field_power}
use Rattle.fec_spec.specs.Codeword.{IsCodeword, row_value}
use Rattle.fec_frame_spec.specs.Sections.{FrameSection}
use Rattle.fec_frame_spec.specs.Known.{known_byte}

-- row r, column by column, with the bytes that are known
unfoldable pub known_row : ℕ → (ℕ → Option ℕ) → ℕ → List (Option ℕ)
known_row rows known r = map (λ j. known (j * rows + r)) (range_with_len 0 255)

-- the columns in which row r has no known byte
unfoldable pub unknown_columns : ℕ → (ℕ → Option ℕ) → ℕ → List ℕ
unknown_columns rows known r = filter (λ j. is_none (known (j * rows + r))) (range_with_len 0 255)

-- at most 64 bytes of row r are unknown, and the codeword agrees with the others (EN 301 192 clause 9)
pub record IsCorrection (rows : ℕ) (known : ℕ → Option ℕ) (r : ℕ) (code : List ℕ) : Type 0 where
  pub few : length (unknown_columns rows known r) ≤ 64
  pub codeword : IsCodeword code
  pub agrees : (j byte : ℕ) → j < 255 → known (j * rows + r) ≡ Some byte → slice_index code j ≡ byte

-- all bytes
unfoldable pub all_bytes : List ℕ
all_bytes = range_with_len 0 256

-- all rows that have the known bytes, and any bytes at the other places
unfoldable pub completions : List (Option ℕ) → List (List ℕ)
completions [] = [] ∷ []
completions (Some byte ∷ row) = map (λ rest. byte ∷ rest) (completions row)
completions (None ∷ row) = flat_map (λ byte. map (λ rest. byte ∷ rest) (completions row)) all_bytes

-- the test of a row for being a codeword (EN 301 192 clause 9)
unfoldable pub is_codeword : List ℕ → Bool
is_codeword row =
    (length row == 255)
    && (list_all (λ byte. nat_lt byte 256) row && list_all (λ m. row_value (field_power 2 m) row == 0) (range_with_len 0 64))

-- the codeword that has the known bytes of a row, where there is one
unfoldable pub codeword_with : List (Option ℕ) → Option (List ℕ)
codeword_with row = find is_codeword (completions row)

-- row r corrected: the codeword that agrees, where at most 64 bytes are unknown and there is one (EN 301 192 clause 9)
unfoldable pub corrected_row : ℕ → (ℕ → Option ℕ) → ℕ → Option (List ℕ)
corrected_row rows known r = if nat_le (length (unknown_columns rows known r)) 64 then codeword_with (known_row rows known r) else None

-- a byte of the corrected row; where there is none, as it was
abbrev pub byte_of_row : Option (List ℕ) → ℕ → Option ℕ → Option ℕ
byte_of_row None j byte = byte
byte_of_row (Some code) j byte = Some (slice_index code j)

-- the byte at a place after correction of all rows
abbrev pub corrected_byte : ℕ → (ℕ → Option ℕ) → ℕ → Option ℕ
corrected_byte rows known place = byte_of_row (corrected_row rows known (place % rows)) (place / rows) (known place)

-- row r lacks a byte of the application data table
unfoldable pub lacks_data : ℕ → (ℕ → Option ℕ) → ℕ → Bool
lacks_data rows known r = list_any (λ j. is_none (known (j * rows + r))) (range_with_len 0 191)

-- The rows of a received frame that lacked such a byte and were corrected, and those that lacked one and were left. A row that
-- lacks none is counted as neither.
abbrev pub mended_rows : ℕ → (ℕ → Option ℕ) → ℕ
mended_rows rows known = count_by (λ r. lacks_data rows known r && is_some (corrected_row rows known r)) (range_with_len 0 rows)

abbrev pub left_rows : ℕ → (ℕ → Option ℕ) → ℕ
left_rows rows known = count_by (λ r. lacks_data rows known r && is_none (corrected_row rows known r)) (range_with_len 0 rows)

-- each row has at most 64 bytes that these sections do not tell, those of punctured columns counted (EN 301 192 clause 9)
pub record IsRecoverable (rows : ℕ) (sections : List FrameSection) : Type 0 where
  pub row : (r : ℕ) → r < rows → length (unknown_columns rows (known_byte rows sections) r) ≤ 64
