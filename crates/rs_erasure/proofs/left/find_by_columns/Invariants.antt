use Rattle.std.proofs.Common.{◌≡◌, ◌+◌, ◌<◌, ◌≤◌, ℕ, length}
use Rattle.rs_erasure.specs.Columns.{cell}
use Rattle.rs_erasure.proofs.Remains.{left_term, sum_to}
use Rattle.rs_erasure.proofs.left.find_by_columns.Given as goal

abbrev pub invariant-loop-place : goal.invariant-loop-place
invariant-loop-place l = (r : ℕ) → l.run.from ≤ r → r < l.run.to → (m : ℕ) → m + length l.places < 64
    → cell l.run.rows l.work (length l.places + m) r ≡ sum_to (left_term l.places l.run.rows l.table r m) l.place
