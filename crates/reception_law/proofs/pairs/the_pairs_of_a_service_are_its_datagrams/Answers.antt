use Rattle.reception_law.proofs.DeliveredPairs.{part_is, part_is_told, part_of_record, part_of_end, no_part}
use Rattle.reception_law.proofs.pairs.the_pairs_of_a_service_are_its_datagrams.Goals as goal

pub returns : goal.returns
returns c = record {
  each = part_is;
  told = part_is_told;
  by_record = part_of_record;
  by_end = part_of_end;
  others = no_part;
}
