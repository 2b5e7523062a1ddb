use Rattle.std.proofs.Common.{◌≡◌, ◌-◌, ◌++◌, length}
use Rattle.std.specs.Prelude.{flat_map}
use Rattle.std.specs.List.{range_with_len}
use Rattle.plan_spec.specs.Changes.{pids_in, all_pids}
use Rattle.service_plan.specs.Plans.{draft_seen}
use Rattle.service_plan.proofs.change_checks.all_pids.Given as goal

abbrev pub invariant-loop-service : goal.invariant-loop-service
invariant-loop-service l =
    l.pids.items ++ flat_map (pids_in (draft_seen l.draft)) (range_with_len l.service (length l.draft.services - l.service)) ≡ all_pids (draft_seen l.draft)
