use Rattle.std.proofs.Common.{◌≡◌, ◌-◌, ◌<◌, ◌≤◌, ℕ}
use Rattle.rs_erasure.specs.Columns.{cell}
use Rattle.rs_erasure.proofs.left.has_bytes.Given as goal

abbrev pub invariant-loop-from : goal.invariant-loop-from
invariant-loop-from l = record {
  order : l.run.from ≤ l.from;
  within : l.from ≤ l.run.to;
  none : (r : ℕ) → l.run.from ≤ r → r < l.from → cell l.run.rows l.table l.column r ≡ 0;
}

abbrev pub decreases-loop-from : goal.decreases-loop-from
decreases-loop-from l = l.run.to - l.from
