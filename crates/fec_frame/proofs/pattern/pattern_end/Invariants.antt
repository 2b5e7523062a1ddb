use Rattle.std.proofs.Common.{◌≤◌, ◌<◌}
use Rattle.fec_frame.specs.Runs.{IsPattern}
use Rattle.fec_frame.proofs.pattern.pattern_end.Given as goal

abbrev pub invariant-loop-j : goal.invariant-loop-j
invariant-loop-j l = record {
  some : l.from < l.end;
  most : l.end ≤ l.rows;
  pattern : IsPattern l.rows l.marks l.j l.from l.end;
}
