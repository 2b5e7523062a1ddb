use Rattle.bb_reception_law.proofs.FrameByFrame.{part_is, part_of_frame, no_part}
use Rattle.bb_reception_law.proofs.pairs.the_pairs_of_a_service_are_its_datagrams.Goals as goal

pub returns : goal.returns
returns c = record { each = part_is; by_frame = part_of_frame; others = no_part }
