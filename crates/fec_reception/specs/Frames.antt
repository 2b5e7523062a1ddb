-- The frames that the records of one PID give, and what is counted of them (EN 301 192 clause 9).
use Rattle.std.specs.Prelude.{ℕ, Bool, List, [], ◌∷◌, length, count_by, ◌==◌, if◌then◌else◌, Option, Some, None}
use Rattle.std.specs.List.{list_any}
use Rattle.ts_spec.specs.Recording.{Record}
use Rattle.section_spec.specs.Section.{section_form}
use Rattle.slice_spec.specs.Sections.{Timing, SectionTime}
use Rattle.fec_frame_spec.specs.Sections.{TimedSection, time_of, sections_of, ends_frame, frame_sections_in, frame_sections}
use Rattle.fec_frame_spec.specs.Groups.{last_section, received_frames, closed_frames}
use Rattle.fec_frame_spec.specs.Known.{known_byte}
use Rattle.fec_frame_spec.specs.Corrected.{mended_rows, left_rows}
use Rattle.fec_frame_spec.specs.Delivered.{datagrams_of_frames}
use Rattle.reception_spec.specs.Numbers.{units_on}

-- the frames that the records of a PID give
abbrev pub frames_in : Timing → ℕ → ℕ → List Record → List (List TimedSection)
frames_in timing rows pid records = received_frames timing rows (frame_sections rows pid records)

-- those of them that are closed: all where no more records can come
abbrev pub closed_in : Bool → Timing → ℕ → ℕ → List Record → List (List TimedSection)
closed_in ended timing rows pid records = closed_frames ended (frames_in timing rows pid records)

-- the sections of the frame that is still open, where there is one: the last one, unless it has frame_boundary
abbrev pub open_sections : List (List TimedSection) → List TimedSection
open_sections [] = []
open_sections (group ∷ []) = if list_any ends_frame (sections_of group) then [] else group
open_sections (group ∷ next ∷ others) = open_sections (next ∷ others)

abbrev pub open_in : Timing → ℕ → ℕ → List Record → List TimedSection
open_in timing rows pid records = open_sections (frames_in timing rows pid records)

-- the time of the section seen last of a frame
abbrev pub last_time : List TimedSection → Option SectionTime
last_time [] = None
last_time (s ∷ group) = Some (time_of (last_section s group))

-- the rows of a frame that lacked application data and were corrected, and those that were not
abbrev pub mended_in : ℕ → List TimedSection → ℕ
mended_in rows frame = mended_rows rows (known_byte rows (sections_of frame))

abbrev pub left_in : ℕ → List TimedSection → ℕ
left_in rows frame = left_rows rows (known_byte rows (sections_of frame))

-- a unit of which no section of a frame is read
abbrev pub is_unread : ℕ → List ℕ → Bool
is_unread rows unit = length (frame_sections_in rows unit) == 0

-- how many accepted units of the PID are such
abbrev pub unread_in : ℕ → ℕ → List Record → ℕ
unread_in rows pid records = count_by (is_unread rows) (units_on section_form (Some pid) records)

-- the datagrams of the closed frames, and those that one record more adds, and that the end does
abbrev pub told_in : Bool → Timing → ℕ → ℕ → List Record → List (List ℕ)
told_in ended timing rows pid records = datagrams_of_frames rows (closed_in ended timing rows pid records)
