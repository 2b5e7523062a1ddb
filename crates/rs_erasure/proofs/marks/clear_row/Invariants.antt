use Rattle.std.proofs.Common.{ℕ, ◌≡◌, ◌<◌}
use Rattle.rs_erasure.specs.Columns.{cell}
use Rattle.rs_erasure.proofs.marks.clear_row.Given as goal

abbrev pub invariant-loop-column : goal.invariant-loop-column
invariant-loop-column l = record {
  here : (j : ℕ) → j < l.column → cell l.rows l.work j l.row ≡ 0;
  elsewhere : (j r : ℕ) → r < l.rows → (r ≡ l.row → ⊥) → cell l.rows l.work j r ≡ cell l.rows l.fn.work j r;
}
