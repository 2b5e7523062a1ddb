use Rattle.std.proofs.Common.{◌≡◌, ◌==◌, drop}
use Rattle.plan_spec.specs.Checks.{has_pair}
use Rattle.service_plan.proofs.change_checks.has_pair.Given as goal

abbrev pub invariant-loop-i : goal.invariant-loop-i
invariant-loop-i l = has_pair (λ a b. a == b) l.numbers ≡ has_pair (λ a b. a == b) (drop l.i l.numbers)
