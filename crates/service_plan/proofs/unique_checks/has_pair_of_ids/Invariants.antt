use Rattle.std.proofs.Common.{◌≡◌, ◌==◌, drop}
use Rattle.std.specs.List.{filter_map}
use Rattle.plan_spec.specs.Checks.{has_pair}
use Rattle.plan.specs.Parts.{kind_seen}
use Rattle.service_plan.specs.Wholes.{id_seen}
use Rattle.plan.specs.declared.service.Service.{Service}
use Rattle.service_plan.proofs.unique_checks.has_pair_of_ids.Given as goal

abbrev pub invariant-loop-i : goal.invariant-loop-i
invariant-loop-i l =
    has_pair (λ a b. a == b) (filter_map (λ (s : Service). id_seen l.baseband (kind_seen s.kind)) l.services)
    ≡ has_pair (λ a b. a == b) (filter_map (λ (s : Service). id_seen l.baseband (kind_seen s.kind)) (drop l.i l.services))
