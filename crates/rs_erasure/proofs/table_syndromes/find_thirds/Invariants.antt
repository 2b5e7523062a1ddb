use Rattle.std.proofs.Common.{ℕ, ◌≡◌, ◌<◌, ◌+◌, ◌*◌, ◌-◌}
use Rattle.fec_spec.specs.Field.{field_power}
use Rattle.rs_erasure.specs.Columns.{cell}
use Rattle.gf256.specs.Horner.{horner_value}
use Rattle.rs_erasure.proofs.table_syndromes.find_thirds.Given as goal

abbrev pub invariant-loop-e : goal.invariant-loop-e
invariant-loop-e l = (e i : ℕ) → e < l.e → i < l.fn.run.to - l.fn.run.from → cell 256 l.thirds e i ≡ horner_value (field_power 2 (85 * l.h)) (λ t. cell l.fn.run.rows l.table (e + t * 85) (l.fn.run.from + i)) 3
