use Rattle.count_law.proofs.Units.{all_units_counted}
use Rattle.count_law.proofs.units_add_up.Goals as goal

pub returns : goal.returns
returns c = record { sum = all_units_counted }
