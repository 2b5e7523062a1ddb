use Rattle.std.proofs.Common.{Some, Ok, sym, subst, ap, arith}
use Rattle.plan_spec.specs.Plan.{PlanFields}
use Rattle.plan_spec.specs.Offered.{offered_in}
use Rattle.stream_spec.specs.Stream.{are_on_pids}
use Rattle.datagram_routing.specs.Offering.{IsOffered}
use Rattle.ts_mux.specs.Sending.{WritesPackets}
use Rattle.sample_command.proofs.command.send_sample.Goals as goal

pub stream_packets-requires-clause-on_pids : goal.stream_packets-requires-clause-on_pids
stream_packets-requires-clause-on_pids c = ap are_on_pids c.requires.plan

pub returns-in-Ok-try_from : goal.returns-in-Ok-try_from
returns-in-Ok-try_from c = record {
  sent = λ gives stands.
      let here = subst (λ (p : PlanFields). IsOffered p gives c.args.offered.now) (sym c.requires.plan) stands in
      let wrote = subst (λ (p : PlanFields). WritesPackets p (offered_in p gives) (Ok c.in-Ok.sent) (Some c.new-held.result.bytes) (Some c.stream_packets.new.sink.bytes)) c.requires.plan
      (c.in-Ok.ensures.written gives here) in
      record {
        stream = wrote.records;
        is_stream = wrote.stream;
        bytes = rw c.new-held.ensures.0 at wrote.written;
        packets = omega (arith, c.in-Ok-try_from.ensures, wrote.packets);
        few = omega (arith, c.in-Ok-try_from.ensures, wrote.packets);
      };
}
