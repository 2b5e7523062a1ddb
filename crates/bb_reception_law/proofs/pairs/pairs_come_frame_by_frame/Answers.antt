use Rattle.std.proofs.Common.{refl}
use Rattle.bb_reception_law.proofs.FrameByFrame.{pairs_more}
use Rattle.bb_reception_law.proofs.pairs.pairs_come_frame_by_frame.Goals as goal

pub returns : goal.returns
returns c = record { none = λ plan. refl; more = pairs_more }
