use Rattle.std.proofs.Common.{◌≡◌, length, drop}
use Rattle.std.specs.List.{list_any}
use Rattle.plan_spec.specs.Plan.{PlanFields}
use Rattle.plan_spec.specs.Changes.{moves_wrongly}
use Rattle.plan.specs.Parts.{changes_seen}
use Rattle.service_plan.proofs.change_checks.any_moves_wrongly.Given as goal

abbrev pub invariant-loop-change : goal.invariant-loop-change
invariant-loop-change l =
    (plan : PlanFields) → l.count ≡ length plan.services → list_any (moves_wrongly plan) (changes_seen l.changes) ≡ list_any (moves_wrongly plan) (changes_seen (drop l.change-index l.changes))
