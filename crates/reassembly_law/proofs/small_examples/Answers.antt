use Rattle.std.proofs.Common.{refl}
use Rattle.ts_spec.specs.Packet.{fields_of}
use Rattle.reassembly_law.proofs.small_examples.Goals as goal

pub returns : goal.returns
unfolding fields_of
returns c = record {
  under_way = refl;
  whole_behind_two = refl;
  pointer_agrees = refl;
  pointer_disagrees = refl;
  pointer_does_not_fit = refl;
  gap = refl;
  gap_and_no_fit = refl;
  bad_length = refl;
  bad_check = refl;
}
