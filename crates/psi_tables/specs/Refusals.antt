-- Why bytes are no PAT, or no PMT: the first test that fails.
use Rattle.std.specs.Prelude.{◌≡◌, ℕ, List, length, ◌==◌, nat_le, if◌then◌else◌, Option, Some, None}
use Rattle.section_spec.specs.Section.{section_fields}
use Rattle.section_spec.specs.Mpe.{is_current, is_only_section}
use Rattle.psi_spec.specs.Psi.{is_psi_section}
use Rattle.psi_spec.specs.Pat.{has_whole_programs}
use Rattle.psi_spec.specs.Pmt.{pmt_head, has_loops, has_descriptors}
use Rattle.psi_tables.specs.declared.pat.PatFault.{PatFault}
use Rattle.psi_tables.specs.declared.pat.PatFault.TheVariants as pat
use Rattle.psi_tables.specs.declared.pat.PatReadFault.{PatReadFault}
use Rattle.psi_tables.specs.declared.pat.PatReadFault.TheVariants as pat_read
use Rattle.psi_tables.specs.declared.pmt.PmtFault.{PmtFault}
use Rattle.psi_tables.specs.declared.pmt.PmtFault.TheVariants as pmt
use Rattle.psi_tables.specs.declared.pmt.PmtReadFault.{PmtReadFault}
use Rattle.psi_tables.specs.declared.pmt.PmtReadFault.TheVariants as pmt_read

abbrev pub pat_body_refusal : List ℕ → Option PatFault
pat_body_refusal body =
    if is_current body then (
    if is_only_section body then (
    if has_whole_programs body then None
    else Some pat.Loop)
    else Some pat.Numbers)
    else Some pat.Next

-- the first test that bytes fail as a PAT
abbrev pub pat_refusal : List ℕ → Option PatFault
pat_refusal b =
    if is_psi_section b then (
    if (section_fields b).table_id == 0x00 then pat_body_refusal (section_fields b).body
    else Some pat.Table)
    else Some pat.Section

abbrev pub pmt_loops_refusal : List ℕ → Option PmtFault
pmt_loops_refusal body =
    if has_loops body then (
    if has_descriptors body then None
    else Some pmt.Descriptor)
    else Some pmt.Loop

abbrev pub pmt_body_refusal : List ℕ → Option PmtFault
pmt_body_refusal body =
    if nat_le pmt_head (length body) then (
    if is_current body then (
    if is_only_section body then pmt_loops_refusal body
    else Some pmt.Numbers)
    else Some pmt.Next)
    else Some pmt.Loop

-- the first test that bytes fail as a PMT
abbrev pub pmt_refusal : List ℕ → Option PmtFault
pmt_refusal b =
    if is_psi_section b then (
    if (section_fields b).table_id == 0x02 then pmt_body_refusal (section_fields b).body
    else Some pmt.Table)
    else Some pmt.Section

-- a fault is the refusal; out of memory there is none
abbrev pub IsPatRefusal : PatReadFault → Option PatFault → Type 0
IsPatRefusal (pat_read.Fault fault) refusal = refusal ≡ Some fault
IsPatRefusal pat_read.OutOfMemory refusal = refusal ≡ None

abbrev pub IsPmtRefusal : PmtReadFault → Option PmtFault → Type 0
IsPmtRefusal (pmt_read.Fault fault) refusal = refusal ≡ Some fault
IsPmtRefusal pmt_read.OutOfMemory refusal = refusal ≡ None
