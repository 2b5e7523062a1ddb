use Rattle.std.proofs.Common.{ap, length, ◌∙◌}
use Rattle.section_spec.specs.Mpe.{fec_body, fec_of}
use Rattle.mpe_section.proofs.Written.{fec_body_is_writable, fec_of-fec_body}
use Rattle.mpe_section.proofs.laws.a_written_fec_section_reads_back.Goals as goal

pub returns-clause-section : goal.returns-clause-section
returns-clause-section c = λ f it. c.a_written_section_reads_back.ensures.section 0x78 0xB0 (fec_body f) (fec_body_is_writable f it)

pub returns-clause-unit : goal.returns-clause-unit
returns-clause-unit c = λ f it. c.a_written_section_reads_back.ensures.unit 0x78 0xB0 (fec_body f) (fec_body_is_writable f it)

pub returns-clause-read : goal.returns-clause-read
returns-clause-read c = λ f it.
    ap (fec_of (length f.column)) (c.a_written_section_reads_back.ensures.read 0x78 0xB0 (fec_body f) (fec_body_is_writable f it))
    ∙ fec_of-fec_body f it

pub returns-clause-span : goal.returns-clause-span
returns-clause-span c = λ f rest it. c.a_written_section_reads_back.ensures.span 0x78 0xB0 (fec_body f) rest (fec_body_is_writable f it)
