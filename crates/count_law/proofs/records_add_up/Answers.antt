use Rattle.count_law.proofs.Whole.{records_counted}
use Rattle.count_law.proofs.records_add_up.Goals as goal

pub returns : goal.returns
returns c = record { sum = records_counted }
