use Rattle.std.proofs.Common.{◌≡◌}
use Rattle.fec_tests.proofs.fec_frame_tests.place_frame.Given as goal

abbrev pub invariant-loop-number : goal.invariant-loop-number
invariant-loop-number l = l.table.rows ≡ 256
