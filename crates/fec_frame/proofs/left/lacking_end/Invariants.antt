use Rattle.std.proofs.Common.{◌≤◌}
use Rattle.fec_frame.proofs.left.lacking_end.Given as goal

abbrev pub invariant-loop-end : goal.invariant-loop-end
invariant-loop-end l = record {
  least : l.to ≤ l.end;
  most : l.end ≤ l.rows;
}

abbrev pub decreases-loop-end : goal.decreases-loop-end
decreases-loop-end l = l.end
