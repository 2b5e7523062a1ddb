use Rattle.std.proofs.Common.{ℕ, ◌≡◌, ◌%◌, ◌<◌, ◌+◌, ◌*◌, ◌-◌}
use Rattle.fec_spec.specs.Field.{field_power}
use Rattle.rs_erasure.specs.Columns.{cell}
use Rattle.gf256.specs.Horner.{horner_value}
use Rattle.rs_erasure.proofs.table_syndromes.find_all_classes.Given as goal

abbrev pub invariant-loop-h : goal.invariant-loop-h
invariant-loop-h l = (k b i : ℕ) → k < 15 → k % 3 < l.h → b < 17 → i < l.fn.run.to - l.fn.run.from
    → cell 256 l.classes (k * 17 + b) i ≡ horner_value (field_power 2 (17 * k)) (λ q. cell l.fn.run.rows l.table (b + q * 17) (l.fn.run.from + i)) 15
