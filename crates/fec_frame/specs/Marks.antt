-- Marks of the places of a table: whether the byte at a place is known (1), and whether a datagram can start there (2).
use Rattle.std.specs.Prelude.{◌≡◌, ◌≢◌, ◌⊎◌, ℕ, ◌-◌, ◌*◌, ◌<◌, ◌≤◌, Bool, true, false, not, List, length, slice_index, bit_and, ◌==◌, if◌then◌else◌, Option, Some, None}
use Rattle.section_spec.specs.Mpe.{MpeFields}
use Rattle.fec_frame_spec.specs.Starts.{run_within, IsSectionEdge, IsDatagramStart}

abbrev pub is_known_mark : ℕ → Bool
is_known_mark mark = not (bit_and mark 1 == 0)

abbrev pub is_start_mark : ℕ → Bool
is_start_mark mark = not (bit_and mark 2 == 0)

-- the byte at a place, where it is known
unfoldable pub marked_byte : List ℕ → List ℕ → ℕ → Option ℕ
marked_byte bytes marks place = if is_known_mark (slice_index marks place) then Some (slice_index bytes place) else None

-- the known bytes from a place on, before the limit
unfoldable pub marked_run : List ℕ → List ℕ → ℕ → ℕ → List ℕ
marked_run bytes marks limit place = run_within (marked_byte bytes marks) (limit - place) place

-- the bytes of these places are known, and the byte after them is not
pub record IsRun (marks : List ℕ) (limit start end : ℕ) : Type 0 where
  pub order : start ≤ end
  pub within : end ≤ limit
  pub known : (place : ℕ) → start ≤ place → place < end → is_known_mark (slice_index marks place) ≡ true
  pub over : end < limit → is_known_mark (slice_index marks end) ≡ false

-- the mark of a start, set
pub record IsStartSet (old new : List ℕ) (at : ℕ) : Type 0 where
  pub long : length new ≡ length old
  pub known : (place : ℕ) → is_known_mark (slice_index new place) ≡ is_known_mark (slice_index old place)
  pub here : is_start_mark (slice_index new at) ≡ true
  pub elsewhere : (place : ℕ) → place ≢ at → is_start_mark (slice_index new place) ≡ is_start_mark (slice_index old place)

-- the marks tell place 0 and the edges of sections
pub record AreEdgesMarked (rows : ℕ) (marks : List ℕ) (sections : List MpeFields) : Type 0 where
  pub marked : (place : ℕ) → place < 191 * rows → (place ≡ 0) ⊎ IsSectionEdge sections place → is_start_mark (slice_index marks place) ≡ true
  pub edge : (place : ℕ) → place < 191 * rows → is_start_mark (slice_index marks place) ≡ true → (place ≡ 0) ⊎ IsSectionEdge sections place

-- the marks tell where datagrams can start
pub record AreStartsMarked (rows : ℕ) (bytes marks : List ℕ) (sections : List MpeFields) : Type 0 where
  pub marked : (place : ℕ) → place < 191 * rows → IsDatagramStart rows (marked_byte bytes marks) sections place → is_start_mark (slice_index marks place) ≡ true
  pub start : (place : ℕ) → place < 191 * rows → is_start_mark (slice_index marks place) ≡ true → IsDatagramStart rows (marked_byte bytes marks) sections place
