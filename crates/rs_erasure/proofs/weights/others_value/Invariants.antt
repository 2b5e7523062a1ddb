use Rattle.std.proofs.Common.{◌≡◌, ◌≤◌, drop, length, map}
use Rattle.erasure_law.specs.Roots.{differences, place_power, without}
use Rattle.rs_erasure.proofs.weights.others_value.Given as goal

abbrev pub invariant-loop-left : goal.invariant-loop-left
invariant-loop-left l = record {
  is : l.value.0 ≡ differences (map place_power (without l.place (drop l.left l.unknown))) (place_power l.place);
  within : l.left ≤ length l.unknown;
}

abbrev pub decreases-loop-left : goal.decreases-loop-left
decreases-loop-left l = l.left
