use Rattle.fec_frame_law.proofs.Between.{received_sent}
use Rattle.fec_frame_law.proofs.frames_stay_apart.Goals as goal

pub returns : goal.returns
returns c = record { apart = λ timing rows first sent frames kept are_sent are_kept timed often. received_sent timing first kept frames are_kept timed rows sent are_sent often }
