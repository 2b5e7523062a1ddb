use Rattle.reception_law.proofs.DeliveredPairs.{one_given, none_given, alone}
use Rattle.reception_law.proofs.pairs.a_packet_gives_pairs_of_its_service.Goals as goal

pub returns : goal.returns
returns c = record { one = one_given; none = none_given; alone = alone }
