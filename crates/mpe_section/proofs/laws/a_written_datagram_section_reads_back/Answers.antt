use Rattle.std.proofs.Common.{ap, length, ◌∙◌}
use Rattle.section_spec.specs.Mpe.{mpe_body, mpe_of}
use Rattle.mpe_section.proofs.Written.{mpe_body_is_writable, mpe_of-mpe_body, whole_front}
use Rattle.mpe_section.proofs.laws.a_written_datagram_section_reads_back.Goals as goal

pub returns-clause-section : goal.returns-clause-section
returns-clause-section c = λ m it. c.a_written_section_reads_back.ensures.section 0x3E 0xB0 (mpe_body m) (mpe_body_is_writable m it)

pub returns-clause-unit : goal.returns-clause-unit
returns-clause-unit c = λ m it. c.a_written_section_reads_back.ensures.unit 0x3E 0xB0 (mpe_body m) (mpe_body_is_writable m it)

pub returns-clause-read : goal.returns-clause-read
returns-clause-read c = λ m it.
    ap mpe_of (c.a_written_section_reads_back.ensures.read 0x3E 0xB0 (mpe_body m) (mpe_body_is_writable m it))
    ∙ mpe_of-mpe_body m it ((c.a_front_is_one_datagram.ensures.front m.datagram (length m.datagram)).1 (whole_front m.datagram it.datagram_is))

pub returns-clause-span : goal.returns-clause-span
returns-clause-span c = λ m rest it. c.a_written_section_reads_back.ensures.span 0x3E 0xB0 (mpe_body m) rest (mpe_body_is_writable m it)
