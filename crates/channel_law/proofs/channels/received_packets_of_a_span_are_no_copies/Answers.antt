use Rattle.ts_spec.specs.Received.{received_packets}
use Rattle.channel_law.proofs.Member.{member_contains}
use Rattle.channel_law.proofs.Copies.{received_no_copy}
use Rattle.channel_law.proofs.channels.received_packets_of_a_span_are_no_copies.Goals as goal

pub returns : goal.returns
returns c = record {
  no_copy = λ recording pids sent recorded channel stamps span is_span pid read no_lone_copies packet n time there place moment.
      received_no_copy pids sent recorded channel recording stamps span is_span pid read no_lone_copies packet n time
      (member_contains (received_packets pid span) packet there) place moment;
}
