use Rattle.std.proofs.Common.{arith, ◌<◌, ◌+◌, ◌∙◌, ap, ℕ, List, get_or, length, drop, bit_xor}
use Rattle.erasure_law.specs.Roots.{combined}
use Rattle.rs_erasure.proofs.Steps.{combine_step}
use Rattle.rs_erasure.proofs.weights.combine.Goals as goal

pub loop-m-preserved : goal.loop-m-preserved
loop-m-preserved c =
    let n : ℕ = c.loop-m.m in
    let p : List ℕ = c.args.polynomial.now in
    let term : ℕ → ℕ = λ k. get_or c.args.syndromes.now k 0 in
    let lt : n < length p = omega arith in
    ap (λ t. bit_xor t (combined (drop (n + 1) p) term (n + 1))) (c.add-sum.ensures ∙ ap (λ t. bit_xor c.loop-m.sum.0 t) c.mul.ensures)
    ∙ combine_step p term n c.loop-m.sum.0 (combined p term 0) lt c.loop-m.invariant
