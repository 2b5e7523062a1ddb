-- What the tables of a program have in common (ISO/IEC 13818-1 clause 2.4.4): one section each, short, and in force.
use Rattle.std.specs.Prelude.{ℕ, ◌%◌, ◌^◌, Bool, ◌&&◌, List, ◌==◌, nat_le}
use Rattle.section_spec.specs.Section.{SectionFields, section_length, is_section}
use Rattle.section_spec.specs.Mpe.{is_current, is_only_section}

-- a section whose section_length is 1,021 at most, as that of a PAT or a PMT is (ISO/IEC 13818-1 clause 2.4.4)
abbrev pub is_psi_section : List ℕ → Bool
is_psi_section b = is_section b && nat_le (section_length b) 1021

-- of this table_id, with current_next_indicator 1, and the only one of its table (ISO/IEC 13818-1 clause 2.4.4). Profile: a PAT or a PMT stands in one section
abbrev pub is_of_table : ℕ → SectionFields → Bool
is_of_table table_id s = (s.table_id == table_id) && (is_current s.body && is_only_section s.body)

-- a PID: the lower 13 bits of two bytes, whose upper three bits are reserved (ISO/IEC 13818-1 clause 2.4.4)
abbrev pub pid_in : ℕ → ℕ
pid_in n = n % 2 ^ 13
