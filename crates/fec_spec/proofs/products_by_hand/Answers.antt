use Rattle.std.proofs.Common.{refl}
use Rattle.wire_spec.specs.BitPolynomials.{bits, divided, remainder, polynomial_product}
use Rattle.fec_spec.specs.Field.{field_product, field_power}
use Rattle.fec_spec.proofs.products_by_hand.Goals as goal

pub returns : goal.returns
unfolding bits divided remainder polynomial_product field_product field_power
returns c = record { product = refl; power = refl; inverse = refl }
