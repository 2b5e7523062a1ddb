use Rattle.std.proofs.Common.{sym}
use Rattle.service_plan.proofs.WrongLemmas.{ends_at, ends_nowhere}
use Rattle.service_plan.proofs.change_checks.ends_with.Goals as goal

pub returns-in-Some : goal.returns-in-Some
returns-in-Some c = sym (ends_at c.args.pids.now c.args.pid _ (sym c.in-Some.ensures.value))

pub returns-in-None : goal.returns-in-None
returns-in-None c = sym (ends_nowhere c.args.pids.now c.args.pid (sym c.in-None.ensures.value))
