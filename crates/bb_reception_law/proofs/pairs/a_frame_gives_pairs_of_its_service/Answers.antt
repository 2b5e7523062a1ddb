use Rattle.bb_reception_law.proofs.FrameByFrame.{one_given, none_given}
use Rattle.bb_reception_law.proofs.pairs.a_frame_gives_pairs_of_its_service.Goals as goal

pub returns : goal.returns
returns c = record { one = one_given; none = none_given }
