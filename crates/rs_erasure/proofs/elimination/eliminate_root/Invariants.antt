use Rattle.std.proofs.Common.{ℕ, ◌≡◌, ◌-◌, ◌<◌, ◌≤◌, ◌⊎◌, bit_xor}
use Rattle.fec_spec.specs.Field.{field_product}
use Rattle.rs_erasure.specs.Columns.{cell}
use Rattle.rs_erasure.proofs.elimination.eliminate_root.Given as goal

abbrev pub invariant-loop-column : goal.invariant-loop-column
invariant-loop-column l = record {
  raised : (r : ℕ) → l.fn.run.from ≤ r → r < l.fn.run.to → (j : ℕ) → l.column ≤ j → j < 64 → cell l.fn.run.rows l.work j r ≡ bit_xor (cell l.fn.run.rows l.fn.work j r) (field_product l.fn.root.0 (cell l.fn.run.rows l.fn.work (j - 1) r));
  kept : (r : ℕ) → l.fn.run.from ≤ r → r < l.fn.run.to → (j : ℕ) → j < l.column → cell l.fn.run.rows l.work j r ≡ cell l.fn.run.rows l.fn.work j r;
  outside : (j r : ℕ) → r < l.fn.run.rows → (r < l.fn.run.from) ⊎ (l.fn.run.to ≤ r) → cell l.fn.run.rows l.work j r ≡ cell l.fn.run.rows l.fn.work j r;
  above : l.fn.first ≤ l.column;
  below : l.column ≤ 64;
}

abbrev pub decreases-loop-column : goal.decreases-loop-column
decreases-loop-column l = l.column
