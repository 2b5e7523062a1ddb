use Rattle.std.proofs.Common.{◌≡◌, ◌<◌, ℕ}
use Rattle.fec_spec.specs.Codeword.{row_value}
use Rattle.fec_spec.specs.Field.{field_power}
use Rattle.rs_erasure.proofs.syndromes.has_zeros.Given as goal

abbrev pub invariant-loop-m : goal.invariant-loop-m
invariant-loop-m l = (k : ℕ) → k < l.m → row_value (field_power 2 k) l.row ≡ 0
