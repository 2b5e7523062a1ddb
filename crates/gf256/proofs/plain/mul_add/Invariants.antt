use Rattle.fec_spec.specs.Field.{field_product, field_sum}
use Rattle.gf256.proofs.Places.{Done}
use Rattle.gf256.proofs.plain.mul_add.Given as goal

abbrev pub invariant-loop-i : goal.invariant-loop-i
invariant-loop-i l = Done (λ t s. field_sum t (field_product l.c.0 s)) l.i l.source l.fn.target l.target
