-- The body is its nine first bytes and the datagram.
use Rattle.std.proofs.Common.{ap, ◌∙◌}
use Rattle.section_spec.specs.Section.{section_bytes}
use Rattle.mpe_section.proofs.mpe.write_mpe_around.Goals as goal

pub returns-clause-written : goal.returns-clause-written
returns-clause-written c = ap (section_bytes 0x3E 0xB0) (c.head_with.ensures.written c.args.datagram.now) ∙ c.write_around.ensures.written
