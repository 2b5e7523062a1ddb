-- A table stands for the sections that were placed in it.
use Rattle.std.specs.Prelude.{◌≡◌, ℕ, ◌*◌, ◌<◌, ◌≤◌, Bool, false, true, List, [], ◌++◌, length, slice_index, ◌==◌, Option, Some, option_map, is_some}
use Rattle.section_spec.specs.Mpe.{MpeFields, FecFields}
use Rattle.fec_frame_spec.specs.Sections.{FrameSection, data_of, data_part}
use Rattle.fec_frame_spec.specs.Known.{first_told, told_byte, known_byte}
use Rattle.fec_frame_spec.specs.Corrected.{corrected_byte}
use Rattle.fec_frame_law.specs.Summary.{Summary, is_apart, IsSummaryOf}
use Rattle.fec_frame.specs.Marks.{is_known_mark, marked_byte, AreEdgesMarked, AreStartsMarked}
use Rattle.fec_frame.specs.declared.place.Column.{Column}
use Rattle.fec_frame.specs.declared.place.State.{State}

-- a table: its rows, the bytes of its 255 columns with their marks, and what it keeps of its sections
pub record TableState : Type 0 where
  pub rows : ℕ
  pub bytes : List ℕ
  pub marks : List ℕ
  pub state : State

-- the byte at a place, where the table knows it
abbrev pub table_byte : TableState → ℕ → Option ℕ
table_byte table place = marked_byte table.bytes table.marks place

-- the numbers of an MPE-FEC section
abbrev pub column_fields : Column → FecFields
column_fields c = record {
  padding = c.padding;
  number = c.number;
  last = c.last;
  real_time = record { delta = 0; table_boundary = false; frame_boundary = false; address = 0 };
  column = [];
}

abbrev pub summary_of : State → Summary
summary_of s = record { frame_ended = s.frame_ended; table_ended = s.table_ended; end = s.end; covered = s.covered; column = option_map column_fields s.column }

-- its bytes, its marks and its state are those of these sections
pub record IsOf (rows : ℕ) (bytes marks : List ℕ) (state : State) (sections : List FrameSection) : Type 0 where
  pub byte : (place : ℕ) → marked_byte bytes marks place ≡ known_byte rows sections place
  pub starts : AreEdgesMarked rows marks (data_of sections)
  pub summary : IsSummaryOf sections (summary_of state)
  pub empty : (length sections == 0) ≡ state.empty

-- every byte before `known_to` is known, and every byte of the application data table from `zeros_from` on is known, and 0
pub record TellsKnown (rows : ℕ) (bytes marks : List ℕ) (state : State) : Type 0 where
  pub most : state.zeros_from ≤ 191 * rows
  pub known : (place : ℕ) → place < state.known_to → is_known_mark (slice_index marks place) ≡ true
  pub zeros : (place : ℕ) → state.zeros_from ≤ place → place < 191 * rows → marked_byte bytes marks place ≡ Some 0

-- the table stands for these sections: it knows the bytes that they tell, and no others
abbrev pub Stands : TableState → List FrameSection → Type 0
Stands table sections = IsOf table.rows table.bytes table.marks table.state sections

-- The table of these sections with its rows corrected: the bytes of the application data table, and where datagrams can start. Of
-- columns of the RS data table nothing is said.
pub record IsSolved (table : TableState) (sections : List FrameSection) : Type 0 where
  pub byte : (place : ℕ) → place < 191 * table.rows → table_byte table place ≡ corrected_byte table.rows (known_byte table.rows sections) place
  pub starts : AreStartsMarked table.rows table.bytes table.marks (data_of sections)
  pub empty : (length sections == 0) ≡ table.state.empty

-- the fields of a datagram_section that a table takes, and those that it does not
abbrev pub data_fields : List ℕ → ℕ → ℕ → Bool → Bool → List ℕ → MpeFields
data_fields mac delta address table_boundary frame_boundary datagram = record {
  mac = mac;
  real_time = record { delta = delta; table_boundary = table_boundary; frame_boundary = frame_boundary; address = address };
  datagram = datagram;
}

-- those of an MPE-FEC section
abbrev pub column_of : ℕ → ℕ → Bool → ℕ → ℕ → ℕ → Bool → List ℕ → FecFields
column_of delta address table_boundary number padding last frame_boundary column = record {
  padding = padding;
  number = number;
  last = last;
  real_time = record { delta = delta; table_boundary = table_boundary; frame_boundary = frame_boundary; address = address };
  column = column;
}

-- the bytes and marks are those of before, with what the section tells
pub record TakesIn (rows : ℕ) (section : FrameSection) (old old_marks new new_marks : List ℕ) : Type 0 where
  pub long : length new ≡ length old
  pub marks_long : length new_marks ≡ length old_marks
  pub byte : (place : ℕ) → marked_byte new new_marks place ≡ first_told (told_byte rows section place) (marked_byte old old_marks place)
  pub starts : (sections : List MpeFields) → AreEdgesMarked rows old_marks sections → AreEdgesMarked rows new_marks (sections ++ data_part section)

-- two summaries that tell the same of each section
pub record IsSameSummary (s t : Summary) : Type 0 where
  pub frame_ended : s.frame_ended ≡ t.frame_ended
  pub table_ended : s.table_ended ≡ t.table_ended
  pub end_is : s.end ≡ t.end
  pub covered_is : s.covered ≡ t.covered
  pub column_some : is_some s.column ≡ is_some t.column
  pub apart : (f : FecFields) → is_apart s.column f ≡ is_apart t.column f
