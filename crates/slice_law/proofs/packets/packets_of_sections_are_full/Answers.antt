use Rattle.slice_law.proofs.Filling.{few_packets}
use Rattle.slice_law.proofs.packets.packets_of_sections_are_full.Goals as goal

pub returns : goal.returns
returns c = record { full = few_packets }
