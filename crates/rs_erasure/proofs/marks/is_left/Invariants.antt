use Rattle.std.proofs.Common.{ℕ, ◌≡◌, ◌<◌, ◌≤◌}
use Rattle.rs_erasure.specs.Columns.{cell}
use Rattle.rs_erasure.proofs.marks.is_left.Given as goal

abbrev pub invariant-loop-column : goal.invariant-loop-column
invariant-loop-column l = (j : ℕ) → l.fn.first ≤ j → j < l.column → cell l.rows l.work j l.row ≡ 0
