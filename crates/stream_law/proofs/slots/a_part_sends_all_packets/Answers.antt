use Rattle.std.proofs.Common.{◌*◌}
use Rattle.plan_spec.specs.Plan.{kinds}
use Rattle.stream_spec.specs.Parts.{service_packets, turn_counts, kept_in}
use Rattle.slice_law.proofs.Checks.{shorter}
use Rattle.stream_law.proofs.Ends.{ends_from}
use Rattle.stream_law.proofs.Carrying.{cycles_of, leaves_slots, keeps_none_from}
use Rattle.stream_law.proofs.AllOut.{service_out}
use Rattle.stream_law.proofs.slots.a_part_sends_all_packets.Goals as goal

pub returns-clause-ends : goal.returns-clause-ends
returns-clause-ends c = λ part accepted.
    ends_from (kept_in part) (turn_counts (kinds part.plan) (service_packets part)) (leaves_slots part (shorter part.plan accepted)) (cycles_of part * part.plan.cycle)
    (keeps_none_from part (shorter part.plan accepted))

pub returns-clause-order : goal.returns-clause-order
returns-clause-order c = λ part accepted slots count k known fits. service_out part accepted k known fits slots count
