-- Why a section carries no datagram or column: the first test that fails.
use Rattle.std.specs.Prelude.{ℕ, ◌+◌, not, ◌||◌, drop, length, slice_index, ◌==◌, nat_lt, if◌then◌else◌, Option, Some, None}
use Rattle.section_spec.specs.Section.{SectionFields}
use Rattle.section_spec.specs.Mpe.{is_current, is_clear, has_no_llc_snap, is_only_section}
use Rattle.ip_datagram.specs.declared.header.IpFault.{IpFault}
use Rattle.ip_datagram.specs.Refusal.{refusal}
use Rattle.mpe_section.specs.declared.mpe.MpeFault.{MpeFault}
use Rattle.mpe_section.specs.declared.mpe.MpeFault.TheVariants as mpe
use Rattle.mpe_section.specs.declared.fec.FecFault.{FecFault}
use Rattle.mpe_section.specs.declared.fec.FecFault.TheVariants as fec

-- what the bytes after the head are refused as
abbrev pub datagram_fault : Option IpFault → Option MpeFault
datagram_fault None = None
datagram_fault (Some fault) = Some (mpe.Datagram fault)

-- why a section is no datagram_section that is read (EN 301 192 clause 7)
abbrev pub mpe_refusal : SectionFields → Option MpeFault
mpe_refusal s =
    if not (s.table_id == 0x3E) then Some mpe.Table else
    if not (is_current s.body) then Some mpe.Next else
    if not (is_clear s.body) then Some mpe.Scrambled else
    if not (has_no_llc_snap s.body) then Some mpe.LlcSnap else
    if not (is_only_section s.body) then Some mpe.Numbers else
    datagram_fault (refusal (drop 9 s.body))

-- why a section is no MPE-FEC section of a frame with so many rows (EN 301 192 clause 9)
abbrev pub fec_refusal : ℕ → SectionFields → Option FecFault
fec_refusal rows s =
    if not (s.table_id == 0x78) then Some fec.Table else
    if not (is_current s.body) then Some fec.Next else
    if nat_lt 190 (slice_index s.body 0) then Some fec.Padding else
    if nat_lt (slice_index s.body 4) (slice_index s.body 3) || nat_lt 63 (slice_index s.body 4) then Some fec.Number else
    if not (length s.body == 9 + rows) then Some fec.Rows else
    None
