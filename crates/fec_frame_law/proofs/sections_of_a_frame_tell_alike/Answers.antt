use Rattle.fec_frame_law.proofs.Alike.{sections_alike}
use Rattle.fec_frame_law.proofs.sections_of_a_frame_tell_alike.Goals as goal

pub returns : goal.returns
returns c = record { alike = sections_alike }
