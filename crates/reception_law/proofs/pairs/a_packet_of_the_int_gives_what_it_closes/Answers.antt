use Rattle.reception_law.proofs.DeliveredPairs.{int_closes}
use Rattle.reception_law.proofs.pairs.a_packet_of_the_int_gives_what_it_closes.Goals as goal

pub returns : goal.returns
returns c = record { closed = int_closes }
