use Rattle.std.proofs.Common.{ℕ, ◌≡◌, ◌-◌, ◌<◌, ◌≤◌, ◌⊎◌, drop, length, bit_xor}
use Rattle.fec_spec.specs.Field.{field_product}
use Rattle.erasure_law.specs.Roots.{differences}
use Rattle.rs_erasure.specs.Columns.{cell}
use Rattle.rs_erasure.proofs.correction.spread.Given as goal

abbrev pub invariant-loop-into : goal.invariant-loop-into
invariant-loop-into l = record {
  factor : l.factor.0 ≡ field_product (differences (drop (length l.roots - l.into) l.roots) l.fn.power.0) l.fn.scale.0;
  before : (r : ℕ) → l.fn.run.from ≤ r → r < l.fn.run.to → (j : ℕ) → l.fn.lowest ≤ j → j < l.into
      → cell l.fn.run.rows l.work j r
      ≡ bit_xor (cell l.fn.run.rows l.fn.work j r) (field_product (field_product (differences (drop (length l.roots - j) l.roots) l.fn.power.0) l.fn.scale.0) (cell l.fn.run.rows l.fn.work l.fn.column r));
  kept : (r : ℕ) → l.fn.run.from ≤ r → r < l.fn.run.to → (j : ℕ) → l.into ≤ j → cell l.fn.run.rows l.work j r ≡ cell l.fn.run.rows l.fn.work j r;
  outside : (j r : ℕ) → r < l.fn.run.rows → (r < l.fn.run.from) ⊎ (l.fn.run.to ≤ r) → cell l.fn.run.rows l.work j r ≡ cell l.fn.run.rows l.fn.work j r;
}
