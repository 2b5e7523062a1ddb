use Rattle.std.proofs.Common.{ℕ, ◌≡◌, ◌<◌, ◌≤◌, ◌⊎◌, get_or}
use Rattle.rs_erasure.specs.Columns.{cell}
use Rattle.rs_erasure.specs.Marks.{IsMarked}
use Rattle.rs_erasure.proofs.marks.mark.Given as goal

abbrev pub invariant-loop-row : goal.invariant-loop-row
invariant-loop-row l = record {
  run : (r : ℕ) → l.fn.run.from ≤ r → r < l.row → IsMarked l.fn.run.rows l.first l.fn.work l.work r (get_or l.bad r 0);
  work : (j r : ℕ) → r < l.fn.run.rows → l.row ≤ r → cell l.fn.run.rows l.work j r ≡ cell l.fn.run.rows l.fn.work j r;
  outside : (j r : ℕ) → r < l.fn.run.rows → (r < l.fn.run.from) ⊎ (l.fn.run.to ≤ r) → cell l.fn.run.rows l.work j r ≡ cell l.fn.run.rows l.fn.work j r;
  kept : (r : ℕ) → (r < l.fn.run.from) ⊎ (l.row ≤ r) → get_or l.bad r 0 ≡ get_or l.fn.bad r 0;
}
