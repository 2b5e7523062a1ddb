use Rattle.std.proofs.Common.{◌≤◌, ◌<◌, ◌+◌, ◌-◌, ℕ}
use Rattle.fec_frame.specs.Runs.{AreRowsSolved}
use Rattle.rs_erasure.specs.Syndromes.{HasLeft}
use Rattle.fec_frame.proofs.solving.solve_lacking.Given as goal

abbrev pub invariant-loop-from : goal.invariant-loop-from
invariant-loop-from l = record {
  solved : AreRowsSolved l.rows 0 l.from l.initial.bytes l.initial.marks l.bytes l.marks l.mended l.left;
  most : l.from ≤ l.rows;
  few : l.mended + l.left ≤ l.from;
  values_most : l.syndromes.to ≤ l.rows;
  syndromes : (r : ℕ) → l.from ≤ r → r < l.syndromes.to → HasLeft l.rows l.syndromes.others.items l.bytes l.work r;
}

abbrev pub decreases-loop-from : goal.decreases-loop-from
decreases-loop-from l = l.rows - l.from
