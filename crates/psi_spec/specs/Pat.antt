-- The program association table (PAT, ISO/IEC 13818-1 clause 2.4.4.3): on which PID the PMT of each program stands.
-- Byte 0 of a body is byte 3 of its section: transport_stream_id in bytes 0 and 1, version_number and current_next_indicator in 2,
-- section_number in 3, last_section_number in 4, then program_number and PID of each program, two bytes each.
use Rattle.std.specs.Prelude.{ℕ, ◌+◌, ◌-◌, ◌*◌, ◌/◌, ◌%◌, ◌^◌, ◌<◌, ◌≤◌, Bool, ◌&&◌, List, ◌∷◌, ◌++◌, map, flat_map, length, All, ◌==◌}
use Rattle.std.specs.List.{range_with_len}
use Rattle.std.specs.Int.{w16, to_be_bytes}
use Rattle.wire_spec.specs.Bytes.{u16_at}
use Rattle.section_spec.specs.Section.{section_fields, section_bytes}
use Rattle.psi_spec.specs.Psi.{is_psi_section, is_of_table, pid_in}

-- a program and the PID of its PMT; of number 0 the PID is that of the network's tables (ISO/IEC 13818-1 clause 2.4.4.3)
pub record ProgramFields : Type 0 where
  pub number : ℕ
  pub pid : ℕ

-- what a PAT says: transport_stream_id, and the number and the PMT's PID of each program (ISO/IEC 13818-1 clause 2.4.4.3)
pub record PatFields : Type 0 where
  pub transport_stream_id : ℕ
  pub programs : List ProgramFields

-- bytes of a body before the first program, and of a program
abbrev pub pat_head : ℕ
pat_head = 5

-- what is after the head is whole programs
abbrev pub has_whole_programs : List ℕ → Bool
has_whole_programs body = (length body - pat_head) % 4 == 0

-- the program at a place
abbrev pub program_at : List ℕ → ℕ → ProgramFields
program_at body i = record { number = u16_at body (pat_head + i * 4); pid = pid_in (u16_at body (pat_head + i * 4 + 2)) }

-- the programs of a body
abbrev pub programs_in : List ℕ → List ProgramFields
programs_in body = map (program_at body) (range_with_len 0 ((length body - pat_head) / 4))

-- bytes are a PAT (ISO/IEC 13818-1 clause 2.4.4.3)
unfoldable pub is_pat : List ℕ → Bool
is_pat b = is_psi_section b && (is_of_table 0x00 (section_fields b) && has_whole_programs (section_fields b).body)

-- what the body of a PAT says
abbrev pub pat_in_body : List ℕ → PatFields
pat_in_body body = record { transport_stream_id = u16_at body 0; programs = programs_in body }

-- what a PAT says, of its bytes
abbrev pub pat_fields : List ℕ → PatFields
pat_fields b = pat_in_body (section_fields b).body

-- what a PAT can be written of
pub record IsWritableProgram (program : ProgramFields) : Type 0 where
  pub number : program.number < 2 ^ 16
  pub pid : program.pid < 2 ^ 13

pub record IsWritablePat (pat : PatFields) : Type 0 where
  pub transport_stream_id : pat.transport_stream_id < 2 ^ 16
  pub programs : All IsWritableProgram pat.programs
  pub most : length pat.programs ≤ 253

-- the bytes of a program
abbrev pub program_bytes : ProgramFields → List ℕ
program_bytes program = to_be_bytes w16 program.number ++ to_be_bytes w16 (0xE000 + program.pid)

-- the body of a PAT that is written: version_number 0 and current_next_indicator 1; reserved bits are 1
abbrev pub pat_body : PatFields → List ℕ
pat_body pat = to_be_bytes w16 pat.transport_stream_id ++ (0xC1 ∷ 0 ∷ 0 ∷ flat_map program_bytes pat.programs)

-- the bytes of a PAT (ISO/IEC 13818-1 clause 2.4.4.3)
abbrev pub pat_bytes : PatFields → List ℕ
pat_bytes pat = section_bytes 0x00 0xB0 (pat_body pat)
