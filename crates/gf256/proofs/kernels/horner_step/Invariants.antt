use Rattle.std.proofs.Common.{◌*◌}
use Rattle.fec_spec.specs.Field.{field_product, field_sum}
use Rattle.gf256.proofs.Places.{Done}
use Rattle.gf256.proofs.kernels.horner_step.Given as goal

abbrev pub invariant-loop-step : goal.invariant-loop-step
invariant-loop-step l = Done (λ t s. field_sum (field_product t l.root.0) s) (l.step * 16) l.column l.initial.state l.state
