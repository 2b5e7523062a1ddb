use Rattle.std.proofs.Common.{◌≡◌, ◌≤◌, drop, length}
use Rattle.erasure_law.specs.Roots.{differences}
use Rattle.rs_erasure.proofs.correction.differences_of.Given as goal

abbrev pub invariant-loop-left : goal.invariant-loop-left
invariant-loop-left l = record {
  is : l.value.0 ≡ differences (drop l.left l.roots) l.fn.power.0;
  above : l.fn.first ≤ l.left;
  within : l.left ≤ length l.roots;
}

abbrev pub decreases-loop-left : goal.decreases-loop-left
decreases-loop-left l = l.left
