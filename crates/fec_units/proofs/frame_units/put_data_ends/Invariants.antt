-- The ends so far.
use Rattle.std.proofs.Common.{◌≡◌, ◌++◌, ◌+◌, ◌-◌, ◌*◌, ◌≤◌, vec_len, vec_capacity}
use Rattle.fec_units.specs.Ends.{after_sizes, ends_of_sizes}
use Rattle.fec_units.specs.Packets.{data_sizes}
use Rattle.fec_units.specs.Parts.{part_of}
use Rattle.fec_units.proofs.frame_units.put_data_ends.Given as goal

abbrev pub invariant-loop-place : goal.invariant-loop-place
invariant-loop-place l = record {
  put : l.ends.items ≡ l.initial.ends.items ++ ends_of_sizes l.start (data_sizes (part_of l.from l.place l.list));
  after : l.at ≡ after_sizes l.start (data_sizes (part_of l.from l.place l.list));
  most : l.at ≤ l.start + 4096 * (l.place - l.from);
  size : vec_len l.ends ≡ vec_len l.initial.ends + (l.place - l.from);
  room : vec_capacity l.ends ≡ vec_capacity l.initial.ends;
}
