use Rattle.intact_law.proofs.AllIntact.{all_delivered, all_wanted}
use Rattle.intact_law.proofs.services.where_all_units_arrived_intact_none_is_missing.Goals as goal

pub returns : goal.returns
returns c = record { all = all_delivered; wanted = all_wanted }
