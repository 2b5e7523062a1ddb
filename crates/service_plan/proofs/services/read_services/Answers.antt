use Rattle.std.proofs.Common.{arith}
use Rattle.service_plan.proofs.ServicesLemmas.{tables_more, tables_end, tables_fit, one_service_more, all_services, no_fault_of_all}
use Rattle.service_plan.proofs.services.read_services.Goals as goal

pub overflow_cast-place : goal.overflow_cast-place
overflow_cast-place c = omega (arith, c.loop-item.invariant.count, tables_fit c.args.items.now c.requires, c.len-place.ensures.read)

pub loop-item-preserved : goal.loop-item-preserved
loop-item-preserved c =
    let tables = tables_more _ _ _ _ c.loop-item-test.true c.item-item.is c.in-Some.ensures in
    let far = rw tables at c.loop-item.invariant in
    let service = rw c.len-place.ensures.read at c.in_ok-draft.ensures.read.1 in
    rw (c.in_ok-push.ensures.written) (one_service_more _ _ _ _ _ _ far c.in_ok-draft.ensures.read.0 service)

pub returns : goal.returns
returns c =
    let end = tables_end c.args.items.now c.loop-item.item-index c.loop-item-test.false in
    let far = rw end at c.loop-item.invariant in
    record { read = (no_fault_of_all _ _ _ far, all_services _ (record { services = c.loop-item.list; spelled = c.loop-item.spelled }) far) }
