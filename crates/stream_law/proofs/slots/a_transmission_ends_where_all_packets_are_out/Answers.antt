use Rattle.stream_law.proofs.Out.{ends_there, out_there}
use Rattle.stream_law.proofs.slots.a_transmission_ends_where_all_packets_are_out.Goals as goal

pub returns : goal.returns
returns c = record {
  out = λ cycle table packets slots less. (out_there cycle table packets slots less, ends_there cycle table packets slots);
}
