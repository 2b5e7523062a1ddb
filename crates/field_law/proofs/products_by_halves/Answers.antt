use Rattle.field_law.proofs.Field.{product_halves}
use Rattle.field_law.proofs.products_by_halves.Goals as goal

pub returns : goal.returns
returns c = record { halves = product_halves }
