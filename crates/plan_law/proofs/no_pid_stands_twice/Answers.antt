use Rattle.std.proofs.Common.{arith}
use Rattle.plan_law.proofs.Pids.{none_twice_in}
use Rattle.plan_law.proofs.no_pid_stands_twice.Goals as goal

pub returns : goal.returns
returns c = λ plan version there none. none_twice_in plan version (omega (arith, there)) none
