-- The services that a recording names: an IP/MAC notification table (INT) says which stream carries which addresses, a program association
-- table (PAT) and program map tables (PMT) say on which PID that stream is.
use Rattle.std.specs.Prelude.{◌≡◌, ℕ, Bool, false, ◌&&◌, List, [], ◌∷◌, ◌++◌, map, flat_map, find, ◌==◌, nat_lt, nat_le, if◌then◌else◌, Option, None, Some, is_some, option_map, option_and_then}
use Rattle.ts_spec.specs.Recording.{Record}
use Rattle.ts_spec.specs.Reassembly.{PlacedUnit, accepted_units}
use Rattle.section_spec.specs.Section.{section_form}
use Rattle.addr_rules.specs.declared.rules.Rule.{Rule}
use Rattle.int_spec.specs.Table.{EntryFields, TableFields}
use Rattle.int_spec.specs.Reading.{IsInt}
use Rattle.int_spec.specs.Versions.{is_int}
use Rattle.psi_spec.specs.Pat.{ProgramFields, PatFields, is_pat, pat_fields}
use Rattle.psi_spec.specs.Pmt.{StreamFields, PmtFields, is_pmt_of, pmt_fields}

-- the accepted sections on a PID, in order
abbrev pub sections_on : ℕ → List Record → List (List ℕ)
sections_on pid records = map (λ (accepted : PlacedUnit). accepted.unit) (accepted_units section_form pid records)

-- the first INT on a PID
abbrev pub int_on : ℕ → List Record → Option (List ℕ)
int_on pid records = find is_int (sections_on pid records)

-- the first PAT, which is on PID 0
abbrev pub pat_of : List Record → Option (List ℕ)
pat_of records = find is_pat (sections_on 0 records)

-- the records after the one with the last byte of the first PAT, where some records stand before all of these
abbrev pub after_pat_from : List Record → List Record → List Record
after_pat_from before [] = []
after_pat_from before (r ∷ records) = if is_some (pat_of (before ++ r ∷ [])) then records else after_pat_from (before ++ r ∷ []) records

abbrev pub after_pat : List Record → List Record
after_pat records = after_pat_from [] records

-- the first PMT of a program on a PID
abbrev pub pmt_on : ℕ → ℕ → List Record → Option (List ℕ)
pmt_on number pid records = find (is_pmt_of number) (sections_on pid records)

-- the first program of this number in a PAT. Number 0 is no program, but the network's tables
abbrev pub has_number : ℕ → ProgramFields → Bool
has_number number program = program.number == number

abbrev pub program_in : ℕ → PatFields → Option ProgramFields
program_in number pat = if nat_lt 0 number then find (has_number number) pat.programs else None

-- the PMT of a program: the first one on the PID that the PAT says, in the records after the PAT. Profile: this PID is 32 to 8190
abbrev pub has_own_pid : ProgramFields → Bool
has_own_pid program = nat_le 32 program.pid && nat_le program.pid 8190

abbrev pub pmt_by : ProgramFields → List Record → Option PmtFields
pmt_by program records = if has_own_pid program then option_map pmt_fields (pmt_on program.number program.pid (after_pat records)) else None

-- the PID of the first stream of a program with this component_tag
abbrev pub is_tag : ℕ → Option ℕ → Bool
is_tag tag None = false
is_tag tag (Some own) = own == tag

abbrev pub has_tag : ℕ → StreamFields → Bool
has_tag tag stream = is_tag tag stream.tag

abbrev pub pid_by_tag : ℕ → PmtFields → Option ℕ
pid_by_tag tag pmt = option_map (λ (s : StreamFields). s.pid) (find (has_tag tag) pmt.streams)

-- the PID of a component that a PAT, where it is of this transport stream, and the PMTs after it name
abbrev pub pid_by_pat : ℕ → ℕ → ℕ → List Record → PatFields → Option ℕ
pid_by_pat stream number tag records pat =
    if pat.transport_stream_id == stream
    then option_and_then (pid_by_tag tag) (option_and_then (λ program. pmt_by program records) (program_in number pat))
    else None

abbrev pub pid_named : List Record → ℕ → ℕ → ℕ → Option ℕ
pid_named records stream number tag = option_and_then (λ section. pid_by_pat stream number tag records (pat_fields section)) (pat_of records)

-- a rule of an INT, its service and component, and the PID where this is
pub record NamedRule : Type 0 where
  pub rule : Rule
  pub service_id : ℕ
  pub component_tag : ℕ
  pub pid : Option ℕ

abbrev pub rules_by : EntryFields → Option ℕ → List NamedRule
rules_by entry pid = map (λ rule. record { rule = rule; service_id = entry.service_id; component_tag = entry.component_tag; pid = pid }) entry.rules

abbrev pub rules_of_entry : List Record → ℕ → EntryFields → List NamedRule
rules_of_entry records stream entry = rules_by entry (pid_named records stream entry.service_id entry.component_tag)

abbrev pub named_by : List Record → Option TableFields → List NamedRule
named_by records None = []
named_by records (Some table) = flat_map (rules_of_entry records table.transport_stream_id) table.entries

-- what the first INT says, where there is one
abbrev pub ReadsAs : Option (List ℕ) → Option TableFields → Type 0
ReadsAs None None = Unit {0}
ReadsAs None (Some table) = ⊥
ReadsAs (Some section) None = ⊥
ReadsAs (Some section) (Some table) = IsInt section table

-- the rules of the first INT on a PID, in order, each with the PID where its component is
pub record AreNamed (pid : ℕ) (records : List Record) (rules : List NamedRule) : Type 0 where
  pub table : Option TableFields
  pub carried : ReadsAs (int_on pid records) table
  pub rules_are : rules ≡ named_by records table
