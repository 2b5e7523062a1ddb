use Rattle.last_byte_law.proofs.Frames.{gives_ended}
use Rattle.last_byte_law.proofs.the_frame_that_ends_a_pdu_gives_its_datagram.Goals as goal

pub returns : goal.returns
returns c = record { gives = λ plan k isi frames b on. gives_ended plan k isi frames b on (c.one_frame_more.ensures.more isi frames b) }
