use Rattle.std.proofs.Common.{◌≡◌, ◌<◌, ℕ, bit_xor, length, slice_index}
use Rattle.gf256.proofs.factor.sums.Given as goal

abbrev pub invariant-loop-i : goal.invariant-loop-i
invariant-loop-i l = record { long : length l.table ≡ 16; each : (k : ℕ) → k < l.i → slice_index l.table k ≡ bit_xor (slice_index l.one k) (slice_index l.other k) }
