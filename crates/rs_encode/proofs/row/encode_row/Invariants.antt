use Rattle.std.proofs.Common.{◌≡◌, ◌<◌, ◌++◌, ℕ, length, take}
use Rattle.std.specs.List.{All}
use Rattle.fec_spec.specs.Codeword.{row_value}
use Rattle.fec_spec.specs.Field.{field_power}
use Rattle.rs_encode.proofs.row.encode_row.Given as goal

abbrev pub invariant-loop-byte : goal.invariant-loop-byte
invariant-loop-byte l = record {
  zeros : (m : ℕ) → m < 64 → row_value (field_power 2 m) (take l.byte-index l.given ++ l.state) ≡ 0;
  long : length l.state ≡ 64;
  bytes : All (λ b. b < 256) l.state;
}
