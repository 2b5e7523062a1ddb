-- The head has the four bytes of the parameters.
use Rattle.std.proofs.Common.{ℕ, List, ◌∷◌, ◌++◌, drop, ap, ◌∙◌}
use Rattle.std.specs.Prelude.{slice_index}
use Rattle.std.specs.Int.{w32, to_be_bytes}
use Rattle.section_spec.specs.Section.{section_bytes}
use Rattle.mpe_section.proofs.fec.write_fec.Goals as goal

pub returns-clause-written : goal.returns-clause-written
returns-clause-written c =
    let f = c.args.fec.now in
    c.write_in_two.ensures.written
    ∙ ap (λ (time : List ℕ). section_bytes 0x78 0xB0
    (f.padding ∷ 0xFF ∷ 0xFF ∷ f.number ∷ f.last ∷ slice_index time 0 ∷ slice_index time 1 ∷ slice_index time 2 ∷ slice_index time 3 ∷ f.column.now)
    ++ drop c.write_in_two.result c.args.into.now)
    (c.to_be_bytes-time.ensures ∙ ap (to_be_bytes w32) c.number_of.ensures.written)
