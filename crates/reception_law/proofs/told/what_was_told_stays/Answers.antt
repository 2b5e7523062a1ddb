use Rattle.reception_law.proofs.WhatIsTold.{told_none, told_stays, all_at_end, end_on, end_without_pid}
use Rattle.reception_law.proofs.told.what_was_told_stays.Goals as goal

pub returns : goal.returns
returns c = record {
  none = told_none;
  more = told_stays;
  all = all_at_end;
  end = end_on;
  without_pid = end_without_pid;
}
