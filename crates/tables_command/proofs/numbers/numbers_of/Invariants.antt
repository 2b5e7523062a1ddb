use Rattle.std.proofs.Common.{◌≡◌, ◌≤◌, length, map, drop, fold, nat_lt}
use Rattle.std.specs.List.{filter}
use Rattle.plan.specs.Parts.{services_seen}
use Rattle.plan.specs.declared.service.Service.{Service}
use Rattle.psi_spec.specs.Tables.{with_number, numbers_of}
use Rattle.tables_command.proofs.numbers.numbers_of.Given as goal

abbrev pub invariant-loop-service : goal.invariant-loop-service
invariant-loop-service l =
    (fold with_number l.numbers.items (filter (nat_lt 0) (map (λ (s : Service). s.service_id) (drop l.service-index l.services))) ≡ numbers_of (services_seen l.services))
    × (length l.numbers.items ≤ l.service-index)
