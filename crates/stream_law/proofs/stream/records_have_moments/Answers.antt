use Rattle.stream_law.proofs.Limits.{in_time}
use Rattle.stream_law.proofs.stream.records_have_moments.Goals as goal

pub returns : goal.returns
returns c = record {
  moments = λ plan whole of_bytes gives are limits records stream. in_time plan whole of_bytes gives are limits stream.slots stream.each;
}
