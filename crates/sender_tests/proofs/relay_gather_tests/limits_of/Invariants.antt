-- The outer plan is the one that is given.
use Rattle.plan.specs.PlanView.{plan_fields}
use Rattle.sender_tests.proofs.relay_gather_tests.limits_of.Given as goal

abbrev pub ghosts-limits_under : goal.ghosts-limits_under
ghosts-limits_under a = record { outer = plan_fields a.plan.now }
