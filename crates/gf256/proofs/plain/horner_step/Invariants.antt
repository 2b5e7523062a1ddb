use Rattle.fec_spec.specs.Field.{field_product, field_sum}
use Rattle.gf256.proofs.Places.{Done}
use Rattle.gf256.proofs.plain.horner_step.Given as goal

abbrev pub invariant-loop-i : goal.invariant-loop-i
invariant-loop-i l = Done (λ t s. field_sum (field_product t l.root.0) s) l.i l.column l.fn.state l.state
