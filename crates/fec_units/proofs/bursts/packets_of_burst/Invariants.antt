-- The sections so far.
use Rattle.std.proofs.Common.{◌≡◌, ◌+◌, ◌*◌, ◌≤◌}
use Rattle.fec_units.specs.Packets.{after_sections, column_sizes}
use Rattle.fec_units.proofs.bursts.packets_of_burst.Given as goal

abbrev pub invariant-loop-number : goal.invariant-loop-number
invariant-loop-number l = record {
  next : l.next ≡ after_sections l.initial.next (column_sizes l.rows l.number);
  few : l.next.packet ≤ l.initial.next.packet + 25 * l.number;
}
