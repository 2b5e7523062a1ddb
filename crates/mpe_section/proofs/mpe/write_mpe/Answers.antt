-- The address alone, or the parameters in the place of its first four bytes.
use Rattle.std.proofs.Common.{ℕ, List, None, ◌++◌, drop, ap, ◌∙◌}
use Rattle.section_spec.specs.Mpe.{mpe_bytes, mpe_to_write}
use Rattle.mpe_section.proofs.mpe.write_mpe.Goals as goal

pub returns-in-None-clause-written : goal.returns-in-None-clause-written
returns-in-None-clause-written c = rw c.in-None.is c.write_to.ensures.written

pub returns-in-Some-clause-written : goal.returns-in-Some-clause-written
returns-in-Some-clause-written c =
    rw c.in-Some.is
    (c.write_to-in-Some.ensures.written
    ∙ ap (λ (mac : List ℕ). mpe_bytes (mpe_to_write mac None c.args.datagram.now) ++ drop c.write_to-in-Some.result c.args.into.now) c.with_parameters.ensures)
