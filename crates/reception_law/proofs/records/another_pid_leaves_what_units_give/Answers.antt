use Rattle.reception_law.proofs.OtherPid.{pid_after, same_service, form_stays, same_delivered, same_unit_numbers, rows_stay}
use Rattle.reception_law.proofs.records.another_pid_leaves_what_units_give.Goals as goal

pub returns : goal.returns
returns c = record {
  pid = λ service pid old on. pid_after service.kind pid old on;
  same = same_service;
  form = λ service pid. form_stays service.kind pid;
  delivered = same_delivered;
  numbers = same_unit_numbers;
  rows = λ service pid. rows_stay service.kind pid;
}
