use Rattle.std.proofs.Common.{true, false, sym, ◌∙◌}
use Rattle.service_plan.proofs.WrongLemmas.{last_is}
use Rattle.service_plan.proofs.change_checks.put_last.Goals as goal

pub returns-then-ends_with : goal.returns-then-ends_with
returns-then-ends_with c = sym (last_is c.args.pids.now.items c.args.pid true (rw c.as_slice.ensures.value at c.if-ends_with.ensures))

pub returns : goal.returns
returns c = c.in_ok-push.ensures.items ∙ sym (last_is c.args.pids.now.items c.args.pid false (rw c.as_slice.ensures.value at c.if-ends_with.ensures))
