-- Sections of MPE-FEC frames (EN 301 192 clause 9): a datagram_section carries a datagram of the application data table,
-- an MPE-FEC section a column of the RS data table.
use Rattle.std.specs.Prelude.{ℕ, ◌+◌, ◌*◌, Bool, true, List, [], ◌∷◌, ◌++◌, length, nat_le, map, filter, flat_map, option_to_list, option_map}
use Rattle.ts_spec.specs.Recording.{Record}
use Rattle.ts_spec.specs.Reassembly.{PlacedUnit, accepted_units}
use Rattle.section_spec.specs.Section.{section_form, section_fields}
use Rattle.section_spec.specs.Mpe.{RealTimeFields, MpeFields, FecFields, mpe_of, fec_of}
use Rattle.slice_spec.specs.Sections.{SectionTime}

-- a section of a frame: a datagram_section with a datagram of the application data table, or an MPE-FEC section with a column of the RS data table (EN 301 192
-- clause 9)
pub data FrameSection : Type 0 where
  data_section : (fields : MpeFields) → FrameSection
  parity_section : (fields : FecFields) → FrameSection

-- its real_time_parameters (EN 301 192 clause 9)
abbrev pub real_time_in : FrameSection → RealTimeFields
real_time_in (data_section m) = m.real_time
real_time_in (parity_section f) = f.real_time

-- frame_boundary: the section is the last one of its frame (EN 301 192 clause 9)
abbrev pub ends_frame : FrameSection → Bool
ends_frame s = (real_time_in s).frame_boundary

-- where the datagram of a section ends in the application data table (EN 301 192 clause 9)
abbrev pub data_end : MpeFields → ℕ
data_end m = m.real_time.address + length m.datagram

-- the section as a list of datagram_sections, of at most one
abbrev pub data_part : FrameSection → List MpeFields
data_part (data_section m) = m ∷ []
data_part (parity_section f) = []

-- the section as a list of MPE-FEC sections, of at most one
abbrev pub parity_part : FrameSection → List FecFields
parity_part (data_section m) = []
parity_part (parity_section f) = f ∷ []

-- the datagram_sections among some sections
abbrev pub data_of : List FrameSection → List MpeFields
data_of sections = flat_map data_part sections

-- the MPE-FEC sections among some sections
abbrev pub parity_of : List FrameSection → List FecFields
parity_of sections = flat_map parity_part sections

-- a section and the moment of the packet with its first byte
pub record TimedSection : Type 0 where
  pub moment : ℕ
  pub section : FrameSection

-- its time: the moment and delta_t (EN 301 192 clause 9)
abbrev pub time_of : TimedSection → SectionTime
time_of s = record { moment = s.moment; delta = (real_time_in s.section).delta }

-- some sections without their moments, and the times of some sections
abbrev pub sections_of : List TimedSection → List FrameSection
sections_of group = map (λ (s : TimedSection). s.section) group

abbrev pub times_of : List TimedSection → List SectionTime
times_of group = map time_of group

-- the sections that a unit reads as, one or none, in frames with so many rows (EN 301 192 clauses 7, 9)
abbrev pub sections_in : ℕ → List ℕ → List FrameSection
sections_in rows unit =
    option_to_list (option_map data_section (mpe_of (section_fields unit)))
    ++ option_to_list (option_map parity_section (fec_of rows (section_fields unit)))

-- Profile: a section whose datagram passes the application data table belongs to no frame
abbrev pub is_within_table : ℕ → FrameSection → Bool
is_within_table rows (data_section m) = nat_le (data_end m) (191 * rows)
is_within_table rows (parity_section f) = true

-- the section of a frame that a unit is, as a list of at most one; a unit that is none has no place in a frame
abbrev pub frame_sections_in : ℕ → List ℕ → List FrameSection
frame_sections_in rows unit = filter (is_within_table rows) (sections_in rows unit)

-- a section with this moment
abbrev pub timed_section : ℕ → FrameSection → TimedSection
timed_section moment section = record { moment = moment; section = section }

-- the section of a frame that a unit is, with this moment, as a list of at most one
abbrev pub timed_sections_in : ℕ → ℕ → List ℕ → List TimedSection
timed_sections_in rows moment unit = map (timed_section moment) (frame_sections_in rows unit)

-- that of an accepted unit
abbrev pub sections_of_unit : ℕ → PlacedUnit → List TimedSection
sections_of_unit rows accepted = timed_sections_in rows accepted.moment accepted.unit

-- the accepted sections of a PID that belong to frames (EN 301 192 clause 9). Where plans change, the records are those in which the service has this PID:
-- frames go on over a change that leaves it, and over no other
abbrev pub frame_sections : ℕ → ℕ → List Record → List TimedSection
frame_sections rows pid records = flat_map (sections_of_unit rows) (accepted_units section_form pid records)
