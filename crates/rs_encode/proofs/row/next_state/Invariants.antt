use Rattle.std.proofs.Common.{◌≡◌, ◌<◌, ◌+◌, ℕ, get_or, length, bit_xor}
use Rattle.std.specs.List.{All}
use Rattle.fec_spec.specs.Field.{field_product}
use Rattle.rs_encode.proofs.row.next_state.Given as goal

abbrev pub invariant-loop-k : goal.invariant-loop-k
invariant-loop-k l = record {
  each : (j : ℕ) → j < l.k → get_or l.next j 0 ≡ bit_xor (field_product (bit_xor l.byte (get_or l.state 0 0)) (get_or l.generator j 0)) (get_or l.state (j + 1) 0);
  long : length l.next ≡ 64;
  bytes : All (λ b. b < 256) l.next;
  factor : l.factor.0 ≡ bit_xor l.byte (get_or l.state 0 0);
}
