use Rattle.std.proofs.Common.{◌≡◌, ◌<◌, ◌^◌}
use Rattle.fec_spec.specs.Field.{field_power, field_product}
use Rattle.gf256.proofs.element.Gf.power.Given as goal

abbrev pub invariant-loop-rest : goal.invariant-loop-rest
invariant-loop-rest l = record { whole : field_product l.done.0 (field_power l.base.0 l.rest) ≡ field_power l.fn.self.0 l.exponent; base : l.base.0 < 2 ^ 8; done : l.done.0 < 2 ^ 8 }

abbrev pub decreases-loop-rest : goal.decreases-loop-rest
decreases-loop-rest l = l.rest
