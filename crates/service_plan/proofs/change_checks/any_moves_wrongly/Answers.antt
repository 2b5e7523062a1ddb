use Rattle.std.proofs.Common.{◌∙◌, sym, true, false}
use Rattle.service_plan.proofs.WrongLemmas.{wrongly_more, wrongly_end}
use Rattle.service_plan.proofs.change_checks.any_moves_wrongly.Goals as goal

pub returns-then-branch : goal.returns-then-branch
returns-then-branch c = λ plan few.
    let wrong = sym c.if-branch.true ∙ rw c.items.ensures.read at c.in_ok-moves_wrongly.ensures in
    sym (c.loop-change.invariant plan few
    ∙ wrongly_more plan c.args.count c.args.changes.now c.loop-change.change-index c.change-item.result true few c.loop-change-test.true c.change-item.is wrong)

pub loop-change-preserved : goal.loop-change-preserved
loop-change-preserved c = λ plan few.
    let right = sym c.if-branch.false ∙ rw c.items.ensures.read at c.in_ok-moves_wrongly.ensures in
    c.loop-change.invariant plan few
    ∙ wrongly_more plan c.args.count c.args.changes.now c.loop-change.change-index c.change-item.result false few c.loop-change-test.true c.change-item.is right

pub returns : goal.returns
returns c = λ plan few. sym (c.loop-change.invariant plan few ∙ wrongly_end plan c.args.changes.now c.loop-change.change-index c.loop-change-test.false)
