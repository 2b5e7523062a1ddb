use Rattle.std.proofs.Common.{◌∙◌, sym, true, false}
use Rattle.service_plan.proofs.WrongLemmas.{pair_more}
use Rattle.service_plan.proofs.change_checks.has_pair.Goals as goal

pub returns-then-has_number : goal.returns-then-has_number
returns-then-has_number c =
    sym (c.loop-i.invariant ∙ pair_more c.args.numbers.now c.loop-i.i c.number_at.result true c.loop-i-test.true c.number_at.ensures (rw c.rest.ensures at c.if-has_number.ensures))

pub loop-i-preserved : goal.loop-i-preserved
loop-i-preserved c = c.loop-i.invariant ∙ pair_more c.args.numbers.now c.loop-i.i c.number_at.result false c.loop-i-test.true c.number_at.ensures (rw c.rest.ensures at c.if-has_number.ensures)
