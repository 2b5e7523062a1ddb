use Rattle.relay_core.proofs.Datagrams.{delivered_records-datagrams}
use Rattle.relay_core.proofs.laws.datagrams_are_offered_as_they_are.Goals as goal

pub returns : goal.returns
returns c = record { are = λ datagrams all. delivered_records-datagrams datagrams all }
