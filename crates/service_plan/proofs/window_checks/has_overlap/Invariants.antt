use Rattle.std.proofs.Common.{◌≡◌, drop}
use Rattle.std.specs.List.{filter_map}
use Rattle.plan_spec.specs.Plan.{sliced_of}
use Rattle.plan_spec.specs.Checks.{has_pair, overlaps}
use Rattle.plan.specs.Parts.{kind_seen}
use Rattle.plan.specs.declared.service.Service.{Service}
use Rattle.service_plan.proofs.window_checks.has_overlap.Given as goal

abbrev pub invariant-loop-i : goal.invariant-loop-i
invariant-loop-i l =
    has_pair overlaps (filter_map (λ (s : Service). sliced_of (kind_seen s.kind)) l.services)
    ≡ has_pair overlaps (filter_map (λ (s : Service). sliced_of (kind_seen s.kind)) (drop l.i l.services))
