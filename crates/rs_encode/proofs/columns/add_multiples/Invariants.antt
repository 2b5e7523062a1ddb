use Rattle.std.proofs.Common.{◌*◌, ◌+◌, ◌<◌, ◌≤◌, ◌≡◌, ℕ, length, get_or, bit_xor}
use Rattle.fec_spec.specs.Field.{field_product}
use Rattle.rs_encode.proofs.columns.add_multiples.Given as goal

abbrev pub invariant-loop-k : goal.invariant-loop-k
invariant-loop-k l = record {
  done : (k r : ℕ) → k < l.k → r < length l.factors → get_or l.columns (k * length l.factors + r) 0 ≡ bit_xor (get_or l.initial.columns (k * length l.factors + r) 0) (field_product (get_or l.coefficients k 0) (get_or l.factors r 0));
  rest : (i : ℕ) → l.k * length l.factors ≤ i → get_or l.columns i 0 ≡ get_or l.initial.columns i 0;
}
