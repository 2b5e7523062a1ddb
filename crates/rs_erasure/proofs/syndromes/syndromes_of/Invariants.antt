use Rattle.std.proofs.Common.{◌≡◌, ◌<◌, ℕ, get_or, length}
use Rattle.fec_spec.specs.Codeword.{row_value}
use Rattle.fec_spec.specs.Field.{field_power}
use Rattle.rs_erasure.proofs.syndromes.syndromes_of.Given as goal

abbrev pub invariant-loop-m : goal.invariant-loop-m
invariant-loop-m l = record { each : (k : ℕ) → k < l.m → get_or l.syndromes k 0 ≡ row_value (field_power 2 k) l.row; long : length l.syndromes ≡ 64 }
