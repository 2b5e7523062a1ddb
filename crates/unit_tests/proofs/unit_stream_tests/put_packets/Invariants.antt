use Rattle.unit_stream.specs.Packers.{IsOnWay}
use Rattle.unit_tests.proofs.unit_stream_tests.put_packets.Given as goal

abbrev pub invariant-loop : goal.invariant-loop
invariant-loop l = IsOnWay l.packer l.ends
