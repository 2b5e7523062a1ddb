use Rattle.fec_frame_law.proofs.Parity.{parity_completes, parity_is}
use Rattle.fec_frame_law.proofs.rows_have_parity.Goals as goal

pub returns : goal.returns
returns c = record { codeword = parity_completes; only = parity_is }
