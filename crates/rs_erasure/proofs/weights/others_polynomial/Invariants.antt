use Rattle.std.proofs.Common.{◌≡◌, ◌≤◌, drop, length, map}
use Rattle.erasure_law.specs.Roots.{root_polynomial, place_power, without}
use Rattle.rs_erasure.proofs.weights.others_polynomial.Given as goal

abbrev pub invariant-loop-left : goal.invariant-loop-left
invariant-loop-left l = record {
  is : l.polynomial.items ≡ root_polynomial (map place_power (without l.place (drop l.left l.unknown)));
  within : l.left ≤ length l.unknown;
}

abbrev pub decreases-loop-left : goal.decreases-loop-left
decreases-loop-left l = l.left
