use Rattle.reception_law.proofs.OtherPid.{pid_on}
use Rattle.reception_law.proofs.Pids.{once, few}
use Rattle.reception_law.proofs.spans.a_service_has_each_pid_once.Goals as goal

pub returns : goal.returns
returns c = record { once = once; few = few; on = pid_on }
