use Rattle.std.proofs.Common.{◌≡◌, ◌≤◌}
use Rattle.arrayvec.specs.ArrayVec.{array_vec_len}
use Rattle.fec_frame.specs.Runs.{unmarked}
use Rattle.fec_frame.proofs.pattern.unknown_in.Given as goal

abbrev pub invariant-loop-j : goal.invariant-loop-j
invariant-loop-j l = record {
  items : l.unknown.items ≡ unmarked l.rows l.marks l.r l.j;
  few : array_vec_len l.unknown ≤ l.j;
}
