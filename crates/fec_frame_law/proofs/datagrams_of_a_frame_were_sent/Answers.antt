use Rattle.fec_frame_law.proofs.Datagrams.{datagrams_sent, datagrams_own, datagrams_all}
use Rattle.fec_frame_law.proofs.datagrams_of_a_frame_were_sent.Goals as goal

pub returns : goal.returns
returns c = record { sent = datagrams_sent; own = datagrams_own; all = datagrams_all }
