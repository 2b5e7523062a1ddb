-- The numbers of a summary, and its text. Profile: the text.
use Rattle.std.specs.Prelude.{◌≡◌, ℕ, ◌<◌, ◌^◌, List, ◌++◌, length, codes}
use Rattle.wire_spec.specs.Lists.{joined}
use Rattle.plan_spec.specs.Given.{sample_plan}
use Rattle.stream_spec.specs.Stream.{IsStream}
use Rattle.sample_spec.specs.Datagrams.{datagram_count}
use Rattle.sample_spec.specs.Summary.{count_line, service_line}
use Rattle.sample_command.specs.declared.command.SentSample.{SentSample}
use Rattle.sample_command.specs.declared.summary.Summary.{Summary}

-- the whole stream of these datagrams is held, of fewer than 2^32 packets
pub record HoldsStream (datagrams : ℕ → ℕ → List (List ℕ)) (sent : SentSample) : Type 0 where
  pub stream : List (List ℕ)
  pub is_stream : IsStream sample_plan datagrams stream
  pub bytes : sent.held.bytes ≡ joined stream
  pub packets : sent.packets ≡ length stream
  pub few : length stream < 2 ^ 32

-- the lines of the numbers
abbrev pub summary_text : Summary → List ℕ
summary_text it =
    count_line (codes "offered") datagram_count
    ++ count_line (codes "packets") it.packets
    ++ count_line (codes "dropped") it.dropped
    ++ service_line (codes "lecture") it.lecture.sent it.lecture.delivered
    ++ service_line (codes "files") it.files.sent it.files.delivered
