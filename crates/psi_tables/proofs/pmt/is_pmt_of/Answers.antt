use Rattle.std.proofs.Common.{◌∙◌, ap, sym, ◌&&◌, ◌==◌, is_none, Bool, ℕ}
use Rattle.section_spec.specs.Section.{SectionFields}
use Rattle.wire_spec.specs.Bytes.{u16_at}
use Rattle.psi_spec.specs.Pmt.{pmt_fields}
use Rattle.psi_tables.proofs.Tests.{pmt_tested}
use Rattle.psi_tables.proofs.pmt.is_pmt_of.Goals as goal

pub returns-in-Ok : goal.returns-in-Ok
returns-in-Ok c =
    ap (λ (n : ℕ). n == c.args.number) (c.u16_in.ensures ∙ ap (λ (s : SectionFields). u16_at s.body 0) c.in-Ok.ensures.read)
    ∙ sym (ap (λ (b : Bool). b && ((pmt_fields c.args.section.now).number == c.args.number)) (pmt_tested c.args.section.now ∙ ap is_none c.in-Ok.ensures.refused))

pub returns-in-Err : goal.returns-in-Err
returns-in-Err c = sym (ap (λ (b : Bool). b && ((pmt_fields c.args.section.now).number == c.args.number)) (pmt_tested c.args.section.now ∙ ap is_none c.in-Err.ensures.refused))
