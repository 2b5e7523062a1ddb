use Rattle.last_byte_law.proofs.Pdus.{adds_pdus}
use Rattle.last_byte_law.proofs.a_pdu_ends_with_the_packet_that_gives_it.Goals as goal

pub returns : goal.returns
returns c = record { pdus = adds_pdus }
