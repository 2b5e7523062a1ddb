-- Bytes pass all tests exactly where none refuses them.
use Rattle.std.proofs.Common.{◌≡◌, ℕ, Bool, true, false, ◌&&◌, ◌==◌, List, length, refl, None, Some, is_none}
use Rattle.std.specs.Prelude.{nat_le, if◌then◌else◌}
use Rattle.section_spec.specs.Section.{section_fields}
use Rattle.section_spec.specs.Mpe.{is_current, is_only_section}
use Rattle.psi_spec.specs.Psi.{is_psi_section}
use Rattle.psi_spec.specs.Pat.{has_whole_programs, is_pat}
use Rattle.psi_spec.specs.Pmt.{pmt_head, has_loops, has_descriptors, is_pmt}
use Rattle.psi_tables.specs.Refusals.{pat_refusal, pmt_refusal}
use Rattle.psi_tables.specs.declared.pat.PatFault.TheVariants as pat
use Rattle.psi_tables.specs.declared.pmt.PmtFault.TheVariants as pmt

pat_by : (p t c o w : Bool) → (p && ((t && (c && o)) && w))
    ≡ is_none (if p then (if t then (if c then (if o then (if w then None else Some pat.Loop) else Some pat.Numbers) else Some pat.Next) else Some pat.Table) else Some pat.Section)
pat_by false t c o w = refl
pat_by true false c o w = refl
pat_by true true false o w = refl
pat_by true true true false w = refl
pat_by true true true true false = refl
pat_by true true true true true = refl

pub pat_tested : (b : List ℕ) → is_pat b ≡ is_none (pat_refusal b)
unfolding is_pat
pat_tested b =
    pat_by (is_psi_section b) ((section_fields b).table_id == 0x00) (is_current (section_fields b).body) (is_only_section (section_fields b).body) (has_whole_programs (section_fields b).body)

pmt_by : (p t h c o l d : Bool) → (p && ((t && (c && o)) && (h && (l && d))))
    ≡ is_none (if p then (if t then (if h then (if c then (if o then (if l then (if d then None else Some pmt.Descriptor) else Some pmt.Loop) else Some pmt.Numbers) else Some pmt.Next) else Some pmt.Loop) else Some pmt.Table) else Some pmt.Section)
pmt_by false t h c o l d = refl
pmt_by true false h c o l d = refl
pmt_by true true false true true l d = refl
pmt_by true true false true false l d = refl
pmt_by true true false false o l d = refl
pmt_by true true true false o l d = refl
pmt_by true true true true false l d = refl
pmt_by true true true true true false d = refl
pmt_by true true true true true true false = refl
pmt_by true true true true true true true = refl

pub pmt_tested : (b : List ℕ) → is_pmt b ≡ is_none (pmt_refusal b)
unfolding is_pmt
pmt_tested b =
    pmt_by (is_psi_section b) ((section_fields b).table_id == 0x02) (nat_le pmt_head (length (section_fields b).body)) (is_current (section_fields b).body)
    (is_only_section (section_fields b).body) (has_loops (section_fields b).body) (has_descriptors (section_fields b).body)
