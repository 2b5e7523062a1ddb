use Rattle.channel_law.proofs.Spans.{whole_is_span, whole_has_no_lone_copies}
use Rattle.channel_law.proofs.channels.a_recording_is_a_span_of_itself.Goals as goal

pub returns : goal.returns
returns c = record {
  span = whole_is_span;
  no_lone_copies = λ pids sent recorded channel pid. whole_has_no_lone_copies channel pid;
}
