use Rattle.std.proofs.Common.{◌≡◌, ◌+◌, ◌-◌, length, map, fold, take}
use Rattle.std.specs.List.{range_with_len}
use Rattle.plan_spec.specs.Changes.{with_pid_behind}
use Rattle.plan.specs.Moves.{pid_after}
use Rattle.service_plan.specs.Moves.{pids_seen}
use Rattle.service_plan.proofs.change_checks.pids_of.Given as goal

abbrev pub invariant-loop-version : goal.invariant-loop-version
invariant-loop-version l =
    fold with_pid_behind l.pids.items (map (λ version. pid_after l.services (take version l.changes) l.service) (range_with_len l.version (length l.changes + 1 - l.version)))
    ≡ pids_seen l.services l.changes l.service
