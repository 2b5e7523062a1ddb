-- The outer plan is the one that is given.
use Rattle.plan.specs.PlanView.{plan_fields}
use Rattle.relay_command.proofs.command.relay.Given as goal

abbrev pub ghosts-gather_recording : goal.ghosts-gather_recording
ghosts-gather_recording g a = record { outer = plan_fields a.outer.now }
