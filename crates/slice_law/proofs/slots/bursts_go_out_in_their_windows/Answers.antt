use Rattle.plan_spec.specs.Signalling.{table_packets}
use Rattle.stream_spec.specs.Windows.{windows_of}
use Rattle.slice_law.proofs.InPlans.{windowed, there}
use Rattle.slice_law.proofs.Turned.{all_out}
use Rattle.slice_law.proofs.slots.bursts_go_out_in_their_windows.Goals as goal

pub returns-clause-there : goal.returns-clause-there
returns-clause-there c = there

pub returns-clause-order : goal.returns-clause-order
returns-clause-order c = λ plan accepted k fields is sizes fits packets none.
    all_out plan.cycle (table_packets plan) (windows_of plan) sizes packets k fields.start fields.length (windowed plan accepted k fields is sizes fits packets none)
