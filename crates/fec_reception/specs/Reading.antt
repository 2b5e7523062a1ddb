-- What the code reads of a unit: a section of a frame.
use Rattle.std.specs.Prelude.{◌≡◌, ℕ, ◌≤◌, true, length}
use Rattle.mpe_section.specs.Views.{mpe_in, fec_in}
use Rattle.fec_frame_spec.specs.Sections.{FrameSection, data_section, parity_section, TimedSection, is_within_table}
use Rattle.fec_reception.specs.declared.sections.Section.{Section}
use Rattle.fec_reception.specs.declared.sections.Section.TheVariants.{Data, Parity}

abbrev pub section_in : Section → FrameSection
section_in (Data m) = data_section (mpe_in m)
section_in (Parity f) = parity_section (fec_in f)

-- with the moment of the packet with its first byte
abbrev pub timed_in : ℕ → Section → TimedSection
timed_in moment section = record { moment = moment; section = section_in section }

-- a table with so many rows can place it
abbrev pub FitsTable : ℕ → Section → Type 0
FitsTable rows (Data m) = is_within_table rows (data_section (mpe_in m)) ≡ true
FitsTable rows (Parity f) = (f.padding ≤ 190) × (f.number ≤ f.last) × (f.last ≤ 63) × (length f.column.now ≡ rows)
