use Rattle.fec_frame_spec.specs.Sender.{frame_of}
use Rattle.stream_spec.specs.Units.{mac_for}
use Rattle.fec_sent_law.specs.Frames.{sections_of_frame}
use Rattle.fec_sent_law.proofs.Sent.{all_sections_are, is_frame}
use Rattle.fec_sent_law.proofs.a_frame_of_datagrams_is_one.Goals as goal

pub returns : goal.returns
unfolding sections_of_frame
returns c = record {
  sent = λ rows columns unicast delta datagrams rows_some least most some are bytes fits. record {
    is = is_frame rows columns rows_some least most datagrams some are bytes fits;
    sections_are = all_sections_are rows (frame_of rows columns datagrams) (mac_for unicast) delta;
  };
}
