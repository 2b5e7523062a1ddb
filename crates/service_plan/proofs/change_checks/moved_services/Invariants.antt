use Rattle.std.proofs.Common.{◌≡◌, ◌++◌, map, drop}
use Rattle.plan.specs.declared.change.Moved.{Moved}
use Rattle.service_plan.proofs.change_checks.moved_services.Given as goal

abbrev pub invariant-loop-one : goal.invariant-loop-one
invariant-loop-one l = map (λ (m : Moved). m.service) l.moved ≡ l.services.items ++ map (λ (m : Moved). m.service) (drop l.one-index l.moved)
