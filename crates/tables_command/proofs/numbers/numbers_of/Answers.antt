use Rattle.std.proofs.Common.{ap, sym, fold, nat_lt, [], rules}
use Rattle.std.specs.List.{filter}
use Rattle.psi_spec.specs.Tables.{with_number}
use Rattle.tables_command.proofs.Used.{service_ids-seen}
use Rattle.tables_command.proofs.numbers.numbers_of.Goals as goal

pub loop-service-init : goal.loop-service-init
loop-service-init c = (rw c.new-numbers.ensures.items (ap (λ ids. fold with_number [] (filter (nat_lt 0) ids)) (sym (service_ids-seen c.args.services.now))), search rules)
