use Rattle.std.proofs.Common.{arith, ℕ, List, ◌≡◌, ◌+◌, ◌*◌, ◌≤◌, ◌∙◌, ap, get_or, length}
use Rattle.std.proofs.lemmas.List.Edits.{get_or-between}
use Rattle.gf256.proofs.Horner.{horner_first, horner_step}
use Rattle.gf256.proofs.kernels.find_rest.Goals as goal

pub loop-step-init : goal.loop-step-init
loop-step-init c = λ i low.
    let first : ℕ = c.args.first in
    let stride : ℕ = c.args.stride in
    let source : List ℕ = c.args.source.now in
    let e : first + i ≡ first + 0 * stride + i = omega arith in
    horner_first c.args.root.0 (λ q. get_or source (first + q * stride + i) 0) (get_or c.copy_from_slice.new.self i 0)
    (ap (λ (l : List ℕ). get_or l i 0) c.copy_from_slice.ensures.after
    ∙ get_or-between source first (first + length c.args.target.now) i 0 (omega arith)
    ∙ ap (λ k. get_or source k 0) e)

pub loop-step-preserved : goal.loop-step-preserved
loop-step-preserved c = λ i low.
    let first : ℕ = c.args.first in
    let stride : ℕ = c.args.stride in
    let source : List ℕ = c.args.source.now in
    let n : ℕ = c.loop-step.step in
    let from : ℕ = first + n * stride in
    let long : length c.loop-step.target ≡ length c.args.target.now = c.loop-step.auto.target ∙ c.copy_from_slice.ensures.len in
    let room : from + length c.args.target.now ≤ length source = c.requires.source_room n (omega arith) in
    c.horner_step.ensures i (omega arith)
    ∙ horner_step c.args.root.0 (λ q. get_or source (first + q * stride + i) 0) n (get_or c.loop-step.target i 0) _ (c.loop-step.invariant i low)
    (get_or-between source from (from + length c.loop-step.target) i 0 (omega arith))
