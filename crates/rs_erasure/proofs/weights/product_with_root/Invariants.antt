use Rattle.std.proofs.Common.{◌≡◌, ◌++◌, drop}
use Rattle.arrayvec.specs.ArrayVec.{array_vec_len}
use Rattle.erasure_law.specs.Roots.{times_root}
use Rattle.rs_erasure.proofs.weights.product_with_root.Given as goal

abbrev pub invariant-loop-coefficient : goal.invariant-loop-coefficient
invariant-loop-coefficient l = record {
  sofar : l.product.items ++ times_root l.fn.root.0 l.carried.0 (drop l.coefficient-index l.polynomial) ≡ times_root l.fn.root.0 0 l.polynomial;
  long : array_vec_len l.product ≡ l.coefficient-index;
}
