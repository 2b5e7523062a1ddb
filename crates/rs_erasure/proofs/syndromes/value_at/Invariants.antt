use Rattle.std.proofs.Common.{◌≡◌, take}
use Rattle.fec_spec.specs.Codeword.{row_value}
use Rattle.rs_erasure.proofs.syndromes.value_at.Given as goal

abbrev pub invariant-loop-byte : goal.invariant-loop-byte
invariant-loop-byte l = l.value.0 ≡ row_value l.fn.z.0 (take l.byte-index l.row)
