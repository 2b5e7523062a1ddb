use Rattle.std.proofs.Common.{◌*◌}
use Rattle.fec_spec.specs.Field.{field_product, field_sum}
use Rattle.gf256.proofs.Places.{Done}
use Rattle.gf256.proofs.kernels.mul_add.Given as goal

abbrev pub invariant-loop-step : goal.invariant-loop-step
invariant-loop-step l = Done (λ t s. field_sum t (field_product l.c.0 s)) (l.step * 16) l.source l.initial.target l.target
