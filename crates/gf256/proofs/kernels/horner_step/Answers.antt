use Rattle.std.proofs.Common.{arith, subst, List, ◌≡◌, ◌+◌, ◌*◌, ◌/◌, ◌-◌, ℕ, length, drop}
use Rattle.fec_spec.specs.Field.{field_product, field_sum}
use Rattle.gf256.proofs.Places.{Done, block_done, behind_done}
use Rattle.gf256.proofs.kernels.horner_step.Goals as goal

pub loop-step-preserved : goal.loop-step-preserved
loop-step-preserved c =
    let n : ℕ = c.loop-step.step in
    let more : (n + 1) * 16 ≡ n * 16 + 16 = omega arith in
    rw (more, c.step_lanes.ensures, c.of-factor.ensures)
    (block_done (λ t s. field_sum (field_product t c.args.root.0) s) (n * 16) 16 c.args.column.now c.args.state.now c.loop-step.state (omega arith) (omega arith) c.loop-step.invariant)

pub returns : goal.returns
returns c =
    let n : ℕ = length c.args.column.now / 16 * 16 in
    let now : List ℕ = c.loop-step.state in
    let done : Done (λ t s. field_sum (field_product t c.args.root.0) s) n c.args.column.now c.args.state.now now =
    let is : c.loop-step.step ≡ length c.args.column.now / 16 = omega arith in
    subst (λ m. Done (λ t s. field_sum (field_product t c.args.root.0) s) (m * 16) c.args.column.now c.args.state.now now) is c.loop-step.invariant in
    behind_done (λ t s. field_sum (field_product t c.args.root.0) s) n c.args.column.now c.args.state.now now c.horner_step.new.state (drop (length now - n) (drop n now)) (omega arith) c.requires c.horner_step.auto.state c.horner_step.ensures done
