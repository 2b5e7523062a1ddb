use Rattle.intact_law.proofs.Pdus.{intact_pdus}
use Rattle.intact_law.proofs.services.datagrams_of_intact_pdus_are_delivered.Goals as goal

pub returns : goal.returns
returns c = record { delivers = intact_pdus }
