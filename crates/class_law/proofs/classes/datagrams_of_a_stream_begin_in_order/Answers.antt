use Rattle.class_law.proofs.Streams.{begin_on}
use Rattle.class_law.proofs.classes.datagrams_of_a_stream_begin_in_order.Goals as goal

pub returns : goal.returns
returns c = record { begin = λ plan whole of_bytes gives frames stream k isi address service is kind_is. begin_on plan whole of_bytes gives frames stream k isi address service is kind_is }
