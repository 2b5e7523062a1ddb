use Rattle.bridge_law.proofs.Cuts.{bridged_cut}
use Rattle.bridge_law.proofs.sending.a_bridged_stream_is_cut_into_its_pieces.Goals as goal

pub returns : goal.returns
returns c = record { cut = bridged_cut }
