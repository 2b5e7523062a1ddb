use Rattle.std.proofs.Common.{◌≡◌, ◌+◌, ◌-◌, length, map, fold, max}
use Rattle.std.specs.List.{range_with_len}
use Rattle.plan_spec.specs.Changes.{plan_in}
use Rattle.plan_spec.specs.Signalling.{table_packets}
use Rattle.service_plan.specs.Plans.{draft_seen}
use Rattle.service_plan.proofs.int_packets.most_table_packets.Given as goal

abbrev pub invariant-loop-version : goal.invariant-loop-version
invariant-loop-version l =
    fold max l.most (map (λ version. table_packets (plan_in (draft_seen l.draft) version)) (range_with_len l.version (length l.draft.changes + 1 - l.version)))
    ≡ fold max 0 (map (λ version. table_packets (plan_in (draft_seen l.draft) version)) (range_with_len 0 (length l.draft.changes + 1)))
