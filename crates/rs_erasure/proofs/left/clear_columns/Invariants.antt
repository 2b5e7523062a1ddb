use Rattle.std.proofs.Common.{◌≡◌, ◌<◌, ◌≤◌, ℕ}
use Rattle.rs_erasure.specs.Columns.{cell}
use Rattle.rs_erasure.proofs.left.clear_columns.Given as goal

abbrev pub invariant-loop-column : goal.invariant-loop-column
invariant-loop-column l = (r : ℕ) → l.run.from ≤ r → r < l.run.to → (j : ℕ) → l.first ≤ j → j < l.column → cell l.run.rows l.work j r ≡ 0
