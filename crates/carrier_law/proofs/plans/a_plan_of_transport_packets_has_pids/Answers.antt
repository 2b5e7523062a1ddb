use Rattle.carrier_law.proofs.Pids.{on_pids}
use Rattle.carrier_law.proofs.plans.a_plan_of_transport_packets_has_pids.Goals as goal

pub returns : goal.returns
returns c = record { pids = on_pids }
