use Rattle.std.proofs.Common.{◌≡◌, ◌<◌, ◌≤◌, ℕ, get_or}
use Rattle.rs_erasure.proofs.left.any_bits.Given as goal

abbrev pub invariant-loop-i : goal.invariant-loop-i
invariant-loop-i l = l.bits ≡ 0 → (place : ℕ) → l.from ≤ place → place < l.i → get_or l.bytes place 0 ≡ 0
