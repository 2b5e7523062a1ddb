use Rattle.fec_frame_law.proofs.Datagrams.{bytes_agree, bytes_whole}
use Rattle.fec_frame_law.proofs.corrected_rows_were_sent.Goals as goal

pub returns : goal.returns
returns c = record { sent = bytes_agree; whole = bytes_whole }
