use Rattle.bridge_frame.proofs.Taken.{frames_of_pieces}
use Rattle.bridge_frame.proofs.laws.pieces_give_the_frames_of_their_records.Goals as goal

pub returns : goal.returns
returns c = record { frames = frames_of_pieces }
