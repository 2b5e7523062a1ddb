use Rattle.std.proofs.Common.{◌≡◌, ℕ, ◌<◌, false, bytes_eq, get_or}
use Rattle.plan_spec.specs.Changes.{no_service}
use Rattle.plan.specs.Parts.{services_seen}
use Rattle.service_plan.proofs.changes.place_named.Given as goal

abbrev pub invariant-loop-i : goal.invariant-loop-i
invariant-loop-i l = (k : ℕ) → k < l.i → bytes_eq (get_or (services_seen l.services) k no_service).name l.name ≡ false
