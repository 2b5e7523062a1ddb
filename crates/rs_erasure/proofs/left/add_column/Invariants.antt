use Rattle.std.proofs.Common.{◌≡◌, ◌+◌, ◌-◌, ◌<◌, ◌≤◌, ℕ, length, bit_xor}
use Rattle.fec_spec.specs.Field.{field_power, field_product}
use Rattle.erasure_law.specs.Roots.{differences, place_power}
use Rattle.rs_erasure.specs.Columns.{cell}
use Rattle.rs_erasure.proofs.left.add_column.Given as goal

abbrev pub invariant-loop-into : goal.invariant-loop-into
invariant-loop-into l = record {
  above : length l.roots ≤ l.into;
  factor : l.factor.0 ≡ field_product (field_power (place_power l.fn.place) (l.into - length l.roots)) (differences l.roots (place_power l.fn.place));
  before : (r : ℕ) → l.fn.run.from ≤ r → r < l.fn.run.to → (m : ℕ) → length l.roots + m < l.into
      → cell l.fn.run.rows l.work (length l.roots + m) r
      ≡ bit_xor (cell l.fn.run.rows l.fn.work (length l.roots + m) r) (field_product (field_product (field_power (place_power l.fn.place) m) (differences l.roots (place_power l.fn.place))) (cell l.fn.run.rows l.table l.fn.place r));
  kept : (r : ℕ) → l.fn.run.from ≤ r → r < l.fn.run.to → (j : ℕ) → l.into ≤ j → cell l.fn.run.rows l.work j r ≡ cell l.fn.run.rows l.fn.work j r;
}
