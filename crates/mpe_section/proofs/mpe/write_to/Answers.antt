-- The body is its nine first bytes and the datagram.
use Rattle.std.proofs.Common.{List, ℕ, ◌++◌, drop, ap, sym, ◌∙◌}
use Rattle.section_spec.specs.Section.{section_bytes}
use Rattle.mpe_section.proofs.mpe.write_to.Goals as goal

pub returns-clause-written : goal.returns-clause-written
returns-clause-written c =
    c.write_in_two.ensures.written
    ∙ ap (λ (body : List ℕ). section_bytes 0x3E 0xB0 body ++ drop c.write_in_two.result c.args.into.now) (sym (c.head_with.ensures.written c.args.datagram.now))
