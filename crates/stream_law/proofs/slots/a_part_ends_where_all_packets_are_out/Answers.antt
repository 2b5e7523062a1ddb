use Rattle.stream_law.proofs.FirstOut.{out_there, ends_there}
use Rattle.stream_law.proofs.slots.a_part_ends_where_all_packets_are_out.Goals as goal

pub returns : goal.returns
returns c = record { out = λ part accepted slots fits. (out_there part accepted fits slots, ends_there part accepted fits slots) }
