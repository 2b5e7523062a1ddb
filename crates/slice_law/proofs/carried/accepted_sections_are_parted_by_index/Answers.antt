use Rattle.slice_law.proofs.Parted.{parted_by_index}
use Rattle.slice_law.proofs.Accepted.{delta_seen}
use Rattle.slice_law.specs.Carried.{time_seen}
use Rattle.slice_law.proofs.carried.accepted_sections_are_parted_by_index.Goals as goal

pub returns : goal.returns
returns c = record {
  parted = λ pids sent recorded channel pid units begin first delta_of frames indexed a b n m i j is_a is_b unit_n unit_m le near.
      parted_by_index frames i j unit_n.section unit_m.section (time_seen delta_of a) (time_seen delta_of b) unit_n.is_of unit_m.is_of le
      first indexed near
      (delta_seen channel pid units begin delta_of n a is_a frames i unit_n) (delta_seen channel pid units begin delta_of m b is_b frames j unit_m);
}
