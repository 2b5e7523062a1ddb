use Rattle.unit_stream.specs.Packers.{IsOnWay}
use Rattle.ule_scenarios.proofs.sndu_packing_tests.an_sndu_begins_after_another_where_two_bytes_have_room.Given as goal

abbrev pub invariant-loop-want : goal.invariant-loop-want
invariant-loop-want g l = IsOnWay l.packer l.ends
