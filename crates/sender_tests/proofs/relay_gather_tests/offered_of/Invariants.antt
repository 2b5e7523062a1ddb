-- The outer plan is the one that is given.
use Rattle.plan.specs.PlanView.{plan_fields}
use Rattle.sender_tests.proofs.relay_gather_tests.offered_of.Given as goal

abbrev pub ghosts-offered_under : goal.ghosts-offered_under
ghosts-offered_under a = record { outer = plan_fields a.plan.now }
