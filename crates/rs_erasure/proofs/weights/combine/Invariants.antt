use Rattle.std.proofs.Common.{◌≡◌, drop, bit_xor, get_or}
use Rattle.erasure_law.specs.Roots.{combined}
use Rattle.rs_erasure.proofs.weights.combine.Given as goal

abbrev pub invariant-loop-m : goal.invariant-loop-m
invariant-loop-m l = bit_xor l.sum.0 (combined (drop l.m l.polynomial) (λ k. get_or l.syndromes k 0) l.m) ≡ combined l.polynomial (λ k. get_or l.syndromes k 0) 0
