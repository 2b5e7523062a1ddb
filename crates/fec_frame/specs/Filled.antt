-- What a section does to the bytes and marks of a table.
use Rattle.std.specs.Prelude.{◌≡◌, ℕ, ◌||◌, List, length, slice_index, if◌then◌else◌, Some}
use Rattle.fec_frame_spec.specs.Known.{is_in}
use Rattle.fec_frame.specs.Marks.{is_known_mark, is_start_mark, marked_byte}

-- the places from one on and before another have these bytes; all else is as it was
pub record ArePut (old new : List ℕ) (from to : ℕ) (told : ℕ → ℕ) : Type 0 where
  pub long : length new ≡ length old
  pub byte : (place : ℕ) → slice_index new place ≡ (if is_in from to place then told place else slice_index old place)

-- the places from one on and before another are marked as known; all else is as it was
pub record AreMarkedKnown (old new : List ℕ) (from to : ℕ) : Type 0 where
  pub long : length new ≡ length old
  pub known : (place : ℕ) → is_known_mark (slice_index new place) ≡ (is_in from to place || is_known_mark (slice_index old place))
  pub start : (place : ℕ) → is_start_mark (slice_index new place) ≡ is_start_mark (slice_index old place)

-- the places from one on and before another have these bytes, and are known; all else is as it was
pub record IsFilled (old old_marks new new_marks : List ℕ) (from to : ℕ) (told : ℕ → ℕ) : Type 0 where
  pub long : length new ≡ length old
  pub marks_long : length new_marks ≡ length old_marks
  pub byte : (place : ℕ) → marked_byte new new_marks place ≡ (if is_in from to place then Some (told place) else marked_byte old old_marks place)
  pub start : (place : ℕ) → is_start_mark (slice_index new_marks place) ≡ is_start_mark (slice_index old_marks place)
