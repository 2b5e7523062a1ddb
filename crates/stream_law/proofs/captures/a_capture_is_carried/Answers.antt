use Rattle.stream_law.specs.Captures.{given_by}
use Rattle.stream_law.proofs.captures.a_capture_is_carried.Goals as goal

pub returns : goal.returns
returns c = record {
  carries = λ plan whole of_bytes capture told fault all tells records stream.
      c.a_stream_carries_what_was_offered.ensures.carries plan whole of_bytes (given_by capture told)
      (c.a_capture_gives_datagrams.ensures.are capture told fault all tells) (c.a_capture_gives_datagrams.ensures.limits capture told fault all tells) records stream;
}
