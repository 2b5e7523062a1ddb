use Rattle.std.proofs.Common.{◌≡◌, ◌≤◌, ◌||◌, drop}
use Rattle.plan_spec.specs.Checks.{has_no_rule, has_wrong_count}
use Rattle.plan.specs.Moves.{services_after}
use Rattle.service_plan.proofs.CheckLemmas.{rules_of, passes_most}
use Rattle.service_plan.proofs.plan_checks.has_wrong_counts.Given as goal

abbrev pub invariant-loop-service : goal.invariant-loop-service
invariant-loop-service l = record {
  few : l.total ≤ 128;
  counts : has_wrong_count (services_after l.services l.changes)
      ≡ (has_no_rule (rules_of (drop l.service (services_after l.services l.changes))) || passes_most l.total (drop l.service (services_after l.services l.changes)));
}
