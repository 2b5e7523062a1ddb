use Rattle.std.proofs.Common.{◌≤◌}
use Rattle.rs_erasure.proofs.left.count_of.Given as goal

abbrev pub invariant-loop-column : goal.invariant-loop-column
invariant-loop-column l = l.count ≤ l.column
