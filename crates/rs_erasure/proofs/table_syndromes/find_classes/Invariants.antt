use Rattle.std.proofs.Common.{ℕ, ◌≡◌, ◌⊎◌, ◌<◌, ◌≤◌, ◌+◌, ◌*◌, ◌-◌}
use Rattle.fec_spec.specs.Field.{field_power}
use Rattle.rs_erasure.specs.Columns.{cell}
use Rattle.gf256.specs.Horner.{horner_value}
use Rattle.rs_erasure.proofs.table_syndromes.find_classes.Given as goal

abbrev pub invariant-loop-b : goal.invariant-loop-b
invariant-loop-b l = record {
  here : (b i : ℕ) → b < l.b → i < l.fn.run.to - l.fn.run.from → cell 256 l.classes (l.k * 17 + b) i ≡ horner_value (field_power 2 (17 * l.k)) (λ a. cell 256 l.thirds (b + a * 17) i) 5;
  other : (j i : ℕ) → (j < l.k * 17) ⊎ (l.k * 17 + 17 ≤ j) → i < 256 → cell 256 l.classes j i ≡ cell 256 l.fn.classes j i;
}
