use Rattle.std.proofs.Common.{ℕ, ◌≡◌, ◌<◌, ◌≤◌, ◌⊎◌, false, length}
use Rattle.fec_spec.specs.Row.{is_among}
use Rattle.fec_spec.specs.Table.{table_row}
use Rattle.rs_erasure.specs.Columns.{cell}
use Rattle.rs_erasure.specs.Correction.{IsBeingCorrected}
use Rattle.rs_erasure.proofs.correction.correct.Given as goal

abbrev pub invariant-loop-at : goal.invariant-loop-at
invariant-loop-at l = record {
  corrected : (r : ℕ) → l.fn.run.from ≤ r → r < l.fn.run.to
      → IsBeingCorrected l.unknown l.lowest 0 (table_row 255 l.fn.run.rows l.fn.table r) (λ j. cell l.fn.run.rows l.fn.work j r)
      → IsBeingCorrected l.unknown l.lowest l.at (table_row 255 l.fn.run.rows l.table r) (λ j. cell l.fn.run.rows l.work j r);
  zero : (r : ℕ) → l.fn.run.from ≤ r → r < l.fn.run.to → ((j : ℕ) → l.lowest ≤ j → j < length l.unknown → cell l.fn.run.rows l.fn.work j r ≡ 0)
      → ((j : ℕ) → l.lowest ≤ j → j < length l.unknown → cell l.fn.run.rows l.work j r ≡ 0) × (table_row 255 l.fn.run.rows l.table r ≡ table_row 255 l.fn.run.rows l.fn.table r);
  known : (j r : ℕ) → r < l.fn.run.rows → is_among j l.unknown ≡ false → cell l.fn.run.rows l.table j r ≡ cell l.fn.run.rows l.fn.table j r;
  outside : (j r : ℕ) → r < l.fn.run.rows → (r < l.fn.run.from) ⊎ (l.fn.run.to ≤ r) → cell l.fn.run.rows l.table j r ≡ cell l.fn.run.rows l.fn.table j r;
  work_outside : (j r : ℕ) → r < l.fn.run.rows → (r < l.fn.run.from) ⊎ (l.fn.run.to ≤ r) → cell l.fn.run.rows l.work j r ≡ cell l.fn.run.rows l.fn.work j r;
}
