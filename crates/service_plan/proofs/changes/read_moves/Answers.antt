use Rattle.service_plan.proofs.ServicesLemmas.{tables_more, tables_end}
use Rattle.service_plan.proofs.ChangeLemmas.{one_move_more, all_moves}
use Rattle.service_plan.proofs.changes.read_moves.Goals as goal

pub loop-item-preserved : goal.loop-item-preserved
loop-item-preserved c =
    let tables = tables_more _ _ _ _ c.loop-item-test.true c.item-item.is c.in-Some.ensures in
    let far = rw tables at c.loop-item.invariant in
    let read = c.in_ok-draft.ensures.read in
    rw (c.in_ok-push.ensures.written) (one_move_more _ _ _ _ _ _ _ far read.0 read.1)

pub returns : goal.returns
returns c =
    let end = tables_end c.args.items.now c.loop-item.item-index c.loop-item-test.false in
    let far = rw end at c.loop-item.invariant in
    record { read = (far.fault, all_moves _ _ (record { moved = c.loop-item.moved; spelled = c.loop-item.spelled }) far) }
