use Rattle.std.proofs.Common.{◌≡◌, ◌⊎◌, ◌<◌, ◌≤◌, ℕ, length, get_or, true}
use Rattle.fec_spec.specs.Row.{is_among}
use Rattle.rs_erasure.specs.Columns.{cell}
use Rattle.rs_erasure.proofs.left.columns_with_bytes.Given as goal

abbrev pub invariant-loop-column : goal.invariant-loop-column
invariant-loop-column l = record {
  long : length l.marks ≡ 255;
  empty : (j : ℕ) → j < 255 → get_or l.marks j 0 ≡ 0 → (is_among j l.places ≡ true) ⊎ ((r : ℕ) → l.run.from ≤ r → r < l.run.to → cell l.run.rows l.table j r ≡ 0);
}
