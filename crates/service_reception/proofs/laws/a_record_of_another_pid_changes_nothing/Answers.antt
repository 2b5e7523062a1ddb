use Rattle.service_reception.proofs.Fronts.{received_stays, nothing_added, table_stays}
use Rattle.service_reception.proofs.laws.a_record_of_another_pid_changes_nothing.Goals as goal

pub returns-clause-service : goal.returns-clause-service
returns-clause-service c = received_stays

pub returns-clause-delivered : goal.returns-clause-delivered
returns-clause-delivered c = nothing_added

pub returns-clause-table : goal.returns-clause-table
returns-clause-table c = table_stays
