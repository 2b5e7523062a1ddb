use Rattle.service_reception.proofs.Fronts.{delivered_stays}
use Rattle.service_reception.proofs.laws.what_was_delivered_stays.Goals as goal

pub returns : goal.returns
returns c = record { stays = delivered_stays }
