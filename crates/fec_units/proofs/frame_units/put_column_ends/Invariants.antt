-- The ends so far.
use Rattle.std.proofs.Common.{◌≡◌, ◌++◌, ◌+◌, ◌*◌, ◌≤◌, vec_len, vec_capacity}
use Rattle.fec_units.specs.Ends.{after_sizes, ends_of_sizes}
use Rattle.fec_units.specs.Packets.{column_sizes}
use Rattle.fec_units.proofs.frame_units.put_column_ends.Given as goal

abbrev pub invariant-loop-number : goal.invariant-loop-number
invariant-loop-number l = record {
  put : l.ends.items ≡ l.initial.ends.items ++ ends_of_sizes l.start (column_sizes l.rows l.number);
  after : l.at ≡ after_sizes l.start (column_sizes l.rows l.number);
  most : l.at ≤ l.start + 1040 * l.number;
  size : vec_len l.ends ≡ vec_len l.initial.ends + l.number;
  room : vec_capacity l.ends ≡ vec_capacity l.initial.ends;
}
