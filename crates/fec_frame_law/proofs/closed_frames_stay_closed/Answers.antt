use Rattle.fec_frame_law.proofs.ClosedFrames.{closed_ended, closed_open, closed_more}
use Rattle.fec_frame_law.proofs.closed_frames_stay_closed.Goals as goal

pub returns : goal.returns
returns c = record { ended = closed_ended; under_way = closed_open; more = closed_more }
