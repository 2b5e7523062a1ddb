use Rattle.std.proofs.Common.{ℕ, ◌≡◌, ◌%◌, ◌<◌, ◌+◌, ◌*◌, ◌-◌}
use Rattle.fec_spec.specs.Field.{field_power}
use Rattle.rs_erasure.specs.Columns.{cell}
use Rattle.gf256.specs.Horner.{horner_value}
use Rattle.rs_erasure.proofs.table_syndromes.find_some_classes.Given as goal

abbrev pub invariant-loop-n : goal.invariant-loop-n
invariant-loop-n l = record {
  here : (n b i : ℕ) → n < l.n → b < 17 → i < l.fn.run.to - l.fn.run.from
      → cell 256 l.classes ((n * 3 + l.h) * 17 + b) i ≡ horner_value (field_power 2 (17 * (n * 3 + l.h))) (λ q. cell l.fn.run.rows l.table (b + q * 17) (l.fn.run.from + i)) 15;
  other : (k b i : ℕ) → (k % 3 ≡ l.h → ⊥) → b < 17 → i < 256 → cell 256 l.classes (k * 17 + b) i ≡ cell 256 l.fn.classes (k * 17 + b) i;
}
