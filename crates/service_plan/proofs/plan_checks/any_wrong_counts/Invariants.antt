use Rattle.std.proofs.Common.{◌≡◌, ◌+◌, ◌-◌, length, take}
use Rattle.std.specs.List.{list_any, range_with_len}
use Rattle.plan_spec.specs.Checks.{has_wrong_count}
use Rattle.plan.specs.Moves.{services_after}
use Rattle.service_plan.proofs.plan_checks.any_wrong_counts.Given as goal

abbrev pub invariant-loop-version : goal.invariant-loop-version
invariant-loop-version l =
    list_any (λ version. has_wrong_count (services_after l.services (take version l.changes))) (range_with_len 0 (length l.changes + 1))
    ≡ list_any (λ version. has_wrong_count (services_after l.services (take version l.changes))) (range_with_len l.version (length l.changes + 1 - l.version))
