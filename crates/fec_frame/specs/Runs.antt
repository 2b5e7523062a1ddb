-- Runs of rows that lack the same columns, corrected one after another.
use Rattle.std.specs.Prelude.{◌≡◌, ◌⊎◌, ℕ, ◌+◌, ◌*◌, ◌<◌, ◌≤◌, Bool, not, ◌&&◌, ◌||◌, List, length, filter, count_by, slice_index, ◌==◌, Option, is_some, is_none}
use Rattle.std.specs.List.{range_with_len}
use Rattle.fec_frame_spec.specs.Corrected.{corrected_row, corrected_byte, lacks_data}
use Rattle.fec_frame.specs.Marks.{is_known_mark, is_start_mark, marked_byte}

-- the first n columns, those in which row r is not marked as known
unfoldable pub unmarked : ℕ → List ℕ → ℕ → ℕ → List ℕ
unmarked rows marks r n = filter (λ j. not (is_known_mark (slice_index marks (j * rows + r)))) (range_with_len 0 n)

-- in some columns, the rows from one on and before another are known where the first of them is
pub record IsPattern (rows : ℕ) (marks : List ℕ) (columns from to : ℕ) : Type 0 where
  pub same : (j r : ℕ) → j < columns → from ≤ r → r < to → is_known_mark (slice_index marks (j * rows + r)) ≡ is_known_mark (slice_index marks (j * rows + from))

-- the byte of a row in the list of bad rows is 0
abbrev pub is_good : List ℕ → ℕ → Bool
is_good bad r = slice_index bad r == 0

-- in some columns, the good rows of a run became known; nothing else did
pub record IsMarked (rows columns from to : ℕ) (bad old new : List ℕ) : Type 0 where
  pub long : length new ≡ length old
  pub start : (place : ℕ) → is_start_mark (slice_index new place) ≡ is_start_mark (slice_index old place)
  pub inside : (j r : ℕ) → j < columns → from ≤ r → r < to
      → is_known_mark (slice_index new (j * rows + r)) ≡ (is_known_mark (slice_index old (j * rows + r)) || is_good bad r)
  pub outside : (j r : ℕ) → r < rows → (columns ≤ j) ⊎ ((r < from) ⊎ (to ≤ r))
      → is_known_mark (slice_index new (j * rows + r)) ≡ is_known_mark (slice_index old (j * rows + r))

-- the same in one column
pub record IsColumnMarked (rows column from to : ℕ) (bad old new : List ℕ) : Type 0 where
  pub long : length new ≡ length old
  pub start : (place : ℕ) → is_start_mark (slice_index new place) ≡ is_start_mark (slice_index old place)
  pub here : (r : ℕ) → from ≤ r → r < to → is_known_mark (slice_index new (column * rows + r)) ≡ (is_known_mark (slice_index old (column * rows + r)) || is_good bad r)
  pub elsewhere : (j r : ℕ) → r < rows → (j ≡ column → from ≤ r → r < to → ⊥)
      → is_known_mark (slice_index new (j * rows + r)) ≡ is_known_mark (slice_index old (j * rows + r))

-- rows that lacked application data: corrected, or left
abbrev pub is_mended : ℕ → (ℕ → Option ℕ) → ℕ → Bool
is_mended rows known r = lacks_data rows known r && is_some (corrected_row rows known r)

abbrev pub is_left : ℕ → (ℕ → Option ℕ) → ℕ → Bool
is_left rows known r = lacks_data rows known r && is_none (corrected_row rows known r)

-- The rows from one on and before another are corrected in the application data table, and the others are as they were; the marks of
-- starts are too. So many rows that lacked data were corrected, and so many were not.
pub record AreRowsSolved (rows from to : ℕ) (old old_marks new new_marks : List ℕ) (mended left : ℕ) : Type 0 where
  pub long : length new ≡ length old
  pub marks_long : length new_marks ≡ length old_marks
  pub start : (place : ℕ) → is_start_mark (slice_index new_marks place) ≡ is_start_mark (slice_index old_marks place)
  pub row : (j r : ℕ) → j < 191 → from ≤ r → r < to → marked_byte new new_marks (j * rows + r) ≡ corrected_byte rows (marked_byte old old_marks) (j * rows + r)
  pub other : (j r : ℕ) → j < 255 → r < rows → (r < from) ⊎ (to ≤ r) → marked_byte new new_marks (j * rows + r) ≡ marked_byte old old_marks (j * rows + r)
  pub mended_are : (k : ℕ) → from + k ≡ to → mended ≡ count_by (is_mended rows (marked_byte old old_marks)) (range_with_len from k)
  pub left_are : (k : ℕ) → from + k ≡ to → left ≡ count_by (is_left rows (marked_byte old old_marks)) (range_with_len from k)
