use Rattle.std.proofs.Common.{◌≡◌, Some, drop, bytes_eq}
use Rattle.std.specs.List.{filter_map}
use Rattle.plan_spec.specs.Checks.{has_pair}
use Rattle.plan.specs.declared.service.Service.{Service}
use Rattle.service_plan.proofs.unique_checks.has_pair_of_names.Given as goal

abbrev pub invariant-loop-i : goal.invariant-loop-i
invariant-loop-i l =
    has_pair bytes_eq (filter_map (λ (s : Service). Some s.name) l.services) ≡ has_pair bytes_eq (filter_map (λ (s : Service). Some s.name) (drop l.i l.services))
