-- MPE-FEC frames as they are sent (EN 301 192 clause 9).
use Rattle.std.specs.Prelude.{◌≡◌, ℕ, ◌+◌, ◌-◌, ◌*◌, ◌<◌, ◌≤◌, false, List, [], ◌∷◌, ◌++◌, length, take, drop, replicate, slice_index_or, ◌==◌, All}
use Rattle.wire_spec.specs.Lists.{joined}
use Rattle.wire_spec.specs.Datagram.{IsDatagram}
use Rattle.fec_spec.specs.Table.{table_row}
use Rattle.fec_spec.specs.Codeword.{IsCodeword}
use Rattle.section_spec.specs.Mpe.{MpeFields, FecFields}
use Rattle.fec_frame_spec.specs.Sections.{FrameSection, data_section, parity_section, TimedSection, sections_of}

-- a frame: its datagrams, its padding_columns, its RS data table, and how many columns of this are sent (EN 301 192 clause 9)
pub record FrameFields : Type 0 where
  pub datagrams : List (List ℕ)
  pub padding : ℕ
  pub parity : List ℕ
  pub columns : ℕ

-- the application data table of 191 columns, column by column: the datagrams one after another, and zeros (EN 301 192 clause 9)
unfoldable pub data_table : ℕ → List (List ℕ) → List ℕ
data_table rows datagrams = joined datagrams ++ replicate (191 * rows - length (joined datagrams)) 0

-- the whole table of 255 columns (EN 301 192 clause 9)
unfoldable pub table_of : ℕ → FrameFields → List ℕ
table_of rows frame = data_table rows frame.datagrams ++ frame.parity

-- a frame with so many rows: one datagram at least, all fit, no padding column has one of their bytes, 1 to 64 columns are sent, each row is a codeword (EN 301
-- 192 clause 9)
pub record IsFrame (rows : ℕ) (frame : FrameFields) : Type 0 where
  pub some : 0 < length frame.datagrams
  pub datagrams_are : All IsDatagram frame.datagrams
  pub fits : length (joined frame.datagrams) ≤ 191 * rows
  pub padding_free : length (joined frame.datagrams) ≤ (191 - frame.padding) * rows
  pub columns_least : 1 ≤ frame.columns
  pub columns_most : frame.columns ≤ 64
  pub parity_size : length frame.parity ≡ 64 * rows
  pub codewords : (r : ℕ) → r < rows → IsCodeword (table_row 255 rows (table_of rows frame) r)

-- where datagram n starts in the application data table (EN 301 192 clause 9)
unfoldable pub datagram_start : List (List ℕ) → ℕ → ℕ
datagram_start datagrams n = length (joined (take n datagrams))

-- datagram n
abbrev pub datagram_at : List (List ℕ) → ℕ → List ℕ
datagram_at datagrams n = slice_index_or datagrams n []

-- the section of datagram n, at its address, with table_boundary on the last one alone; delta_t and MAC address may be any (EN 301 192 clause 9)
pub record IsSectionOfDatagram (frame : FrameFields) (n : ℕ) (m : MpeFields) : Type 0 where
  pub datagram : m.datagram ≡ datagram_at frame.datagrams n
  pub address : m.real_time.address ≡ datagram_start frame.datagrams n
  pub table_boundary : m.real_time.table_boundary ≡ (n + 1 == length frame.datagrams)
  pub frame_boundary : m.real_time.frame_boundary ≡ false

-- the section of column k of the RS data table, with frame_boundary on the last one alone; delta_t and MAC address may be any (EN 301 192 clause 9)
pub record IsSectionOfColumn (rows : ℕ) (frame : FrameFields) (k : ℕ) (f : FecFields) : Type 0 where
  pub column : f.column ≡ take rows (drop (k * rows) frame.parity)
  pub number : f.number ≡ k
  pub last : f.last + 1 ≡ frame.columns
  pub padding : f.padding ≡ frame.padding
  pub frame_boundary : f.real_time.frame_boundary ≡ (k + 1 == frame.columns)

-- section i of a frame: those of its datagrams come first, then those of its columns (EN 301 192 clause 9)
abbrev pub IsSectionOfFrame : ℕ → FrameFields → ℕ → FrameSection → Type 0
IsSectionOfFrame rows frame i (data_section m) = (i < length frame.datagrams) × IsSectionOfDatagram frame i m
IsSectionOfFrame rows frame i (parity_section f) =
    (k : ℕ) × (i ≡ length frame.datagrams + k) × (k < frame.columns) × IsSectionOfColumn rows frame k f

-- the sections of a frame from section i on
abbrev pub AreSectionsFrom : ℕ → FrameFields → ℕ → List FrameSection → Type 0
AreSectionsFrom rows frame i [] = i ≡ length frame.datagrams + frame.columns
AreSectionsFrom rows frame i (s ∷ sections) = IsSectionOfFrame rows frame i s × AreSectionsFrom rows frame (i + 1) sections

-- a frame and its sections (EN 301 192 clause 9)
pub record IsSentFrame (rows : ℕ) (frame : FrameFields) (sections : List FrameSection) : Type 0 where
  pub is : IsFrame rows frame
  pub sections_are : AreSectionsFrom rows frame 0 sections

-- frames one after another, and their sections
abbrev pub AreSentFrames : ℕ → List FrameFields → List (List TimedSection) → Type 0
AreSentFrames rows [] [] = Unit {0}
AreSentFrames rows [] (sections ∷ others) = ⊥
AreSentFrames rows (frame ∷ frames) [] = ⊥
AreSentFrames rows (frame ∷ frames) (sections ∷ others) = IsSentFrame rows frame (sections_of sections) × AreSentFrames rows frames others
