-- Known bytes of a received frame (EN 301 192 clause 9). A frame's table stands column by column: the application data table of
-- 191 columns, so that byte a of it stands at place a, and then the RS data table of 64 columns.
use Rattle.std.specs.Prelude.{◌≡◌, ℕ, ◌+◌, ◌-◌, ◌*◌, ◌<◌, Bool, ◌&&◌, List, [], ◌∷◌, slice_index, nat_lt, nat_le, if◌then◌else◌, Option, Some, None}
use Rattle.fec_frame_spec.specs.Sections.{FrameSection, data_section, parity_section, data_end}

-- the place is one of those from one on and before another
abbrev pub is_in : ℕ → ℕ → ℕ → Bool
is_in from to place = nat_le from place && nat_lt place to

-- The byte that a section tells of a place: a datagram_section those of its datagram, and with table_boundary zeros after it; an MPE-FEC section those of its
-- column, and zeros in the padding columns (EN 301 192 clause 9).
abbrev pub told_byte : ℕ → FrameSection → ℕ → Option ℕ
told_byte rows (data_section m) place =
    if is_in m.real_time.address (data_end m) place then Some (slice_index m.datagram (place - m.real_time.address)) else
    if m.real_time.table_boundary && is_in (data_end m) (191 * rows) place then Some 0 else
    None
told_byte rows (parity_section f) place =
    if is_in (191 * rows + f.number * rows) (191 * rows + f.number * rows + rows) place
    then Some (slice_index f.column (place - (191 * rows + f.number * rows))) else
    if is_in ((191 - f.padding) * rows) (191 * rows) place then Some 0 else
    None

-- the first of two that is told
abbrev pub first_told : Option ℕ → Option ℕ → Option ℕ
first_told None other = other
first_told (Some byte) other = Some byte

-- the byte at a place, where one of the sections tells it, and of those that do the last; a punctured column is told by none
abbrev pub known_byte : ℕ → List FrameSection → ℕ → Option ℕ
known_byte rows [] place = None
known_byte rows (s ∷ sections) place = first_told (known_byte rows sections place) (told_byte rows s place)

-- an erasure of a frame of which these sections arrived intact: a byte of row r, in column j, that none of them tells, those of punctured columns among them
-- (EN 301 192 clause 9)
pub record IsErasure (rows : ℕ) (intact : List FrameSection) (r j : ℕ) : Type 0 where
  pub row : r < rows
  pub column : j < 255
  pub unknown : known_byte rows intact (j * rows + r) ≡ None
