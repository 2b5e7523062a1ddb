use Rattle.unbridge_command.proofs.Frames.{frames_go_on}
use Rattle.unbridge_command.proofs.laws.more_pieces_give_more_frames.Goals as goal

pub returns : goal.returns
returns c = record { frames = frames_go_on }
