use Rattle.two_runs_law.proofs.Bridges.{bridged}
use Rattle.two_runs_law.proofs.bridged.what_a_bridge_puts_out.Goals as goal

pub returns : goal.returns
returns c = record { bytes = bridged }
