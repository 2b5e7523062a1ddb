use Rattle.std.proofs.Common.{get_or, [], arith}
use Rattle.ts_mux.proofs.Items.{lengths_next}
use Rattle.ts_mux.proofs.sending.count_in.Goals as goal

pub overflow_cast-count : goal.overflow_cast-count
overflow_cast-count c =
    omega (arith, c.requires.few, c.loop-service.invariant, c.len.ensures.read, lengths_next (get_or c.args.lists.now c.args.version []) c.loop-service.service c.at.result.now c.at.ensures.read)

pub overflow_add-count : goal.overflow_add-count
overflow_add-count c =
    omega (arith, c.requires.few, c.loop-service.invariant, c.len.ensures.read, lengths_next (get_or c.args.lists.now c.args.version []) c.loop-service.service c.at.result.now c.at.ensures.read)

pub loop-service-preserved : goal.loop-service-preserved
loop-service-preserved c =
    omega (arith, c.loop-service.invariant, c.len.ensures.read, lengths_next (get_or c.args.lists.now c.args.version []) c.loop-service.service c.at.result.now c.at.ensures.read)
