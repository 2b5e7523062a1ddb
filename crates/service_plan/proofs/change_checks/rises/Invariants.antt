use Rattle.std.proofs.Common.{◌≡◌, drop}
use Rattle.plan_spec.specs.Changes.{rises_from}
use Rattle.plan.specs.Parts.{changes_seen}
use Rattle.service_plan.proofs.change_checks.rises.Given as goal

abbrev pub invariant-loop-change : goal.invariant-loop-change
invariant-loop-change l = rises_from 2 (changes_seen l.changes) ≡ rises_from l.least (changes_seen (drop l.change-index l.changes))
