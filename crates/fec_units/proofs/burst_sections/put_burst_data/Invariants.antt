-- The sections so far.
use Rattle.std.proofs.Common.{◌≡◌, ◌+◌, ◌*◌, ◌≤◌, ◌++◌, length}
use Rattle.unit_stream.specs.Packers.{units_of}
use Rattle.fec_frame_spec.specs.Frame.{datagram_start}
use Rattle.fec_units.specs.Parts.{part_of}
use Rattle.fec_units.specs.Timed.{AreHeld, before_datagram, timed_data}
use Rattle.fec_units.proofs.burst_sections.put_burst_data.Given as goal

abbrev pub invariant-loop-n : goal.invariant-loop-n
invariant-loop-n l = record {
  units : units_of l.units.bytes l.units.ends ≡ units_of l.initial.units.bytes l.initial.units.ends ++ timed_data l.unicast (part_of l.from l.end l.list) l.deltas l.n;
  next : l.next ≡ before_datagram (part_of l.from l.end l.list) l.n;
  few : l.next.packet ≤ 25 * l.n;
  address : l.address ≡ datagram_start (part_of l.from l.end l.list) l.n;
  bytes : length l.units.bytes ≡ length l.initial.units.bytes + (l.address + 16 * l.n);
  ends : length l.units.ends ≡ length l.initial.units.ends + l.n;
  bytes_most : l.units.bytes_most ≡ l.initial.units.bytes_most;
  units_most : l.units.units_most ≡ l.initial.units.units_most;
  held : AreHeld l.units.bytes l.units.ends;
  work : length l.work ≡ 4096;
}
