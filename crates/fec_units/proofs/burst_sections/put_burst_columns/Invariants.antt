-- The sections so far.
use Rattle.std.proofs.Common.{◌≡◌, ◌+◌, ◌*◌, ◌≤◌, ◌++◌, length}
use Rattle.unit_stream.specs.Packers.{units_of}
use Rattle.fec_units.specs.Timed.{AreHeld, before_column, timed_columns}
use Rattle.fec_units.proofs.burst_sections.put_burst_columns.Given as goal

abbrev pub invariant-loop-number : goal.invariant-loop-number
invariant-loop-number l = record {
  units : units_of l.units.bytes l.units.ends
      ≡ units_of l.initial.units.bytes l.initial.units.ends ++ timed_columns l.rows l.columns l.padding l.parity l.deltas l.initial.next l.number;
  next : l.next ≡ before_column l.initial.next l.rows l.number;
  few : l.next.packet ≤ l.initial.next.packet + 25 * l.number;
  bytes : length l.units.bytes ≡ length l.initial.units.bytes + l.number * (l.rows + 16);
  ends : length l.units.ends ≡ length l.initial.units.ends + l.number;
  bytes_most : l.units.bytes_most ≡ l.initial.units.bytes_most;
  units_most : l.units.units_most ≡ l.initial.units.units_most;
  held : AreHeld l.units.bytes l.units.ends;
  work : length l.work ≡ 4096;
}
