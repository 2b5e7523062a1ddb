use Rattle.fec_frame_law.proofs.Known.{known_sent}
use Rattle.fec_frame_law.proofs.known_bytes_were_sent.Goals as goal

pub returns : goal.returns
returns c = record { sent = known_sent }
