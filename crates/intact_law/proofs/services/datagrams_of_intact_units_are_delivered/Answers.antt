use Rattle.intact_law.proofs.ByService.{intact_delivered}
use Rattle.intact_law.proofs.services.datagrams_of_intact_units_are_delivered.Goals as goal

pub returns : goal.returns
returns c = record { delivers = intact_delivered }
