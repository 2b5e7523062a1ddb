-- The datagrams up to here are in one burst, if no more come.
use Rattle.std.proofs.Common.{◌≡◌, ◌*◌, ◌≤◌, length}
use Rattle.wire_spec.specs.Lists.{joined}
use Rattle.stream_spec.specs.Units.{fits_window}
use Rattle.fec_units.specs.Packets.{after_sections, data_sizes, first_section}
use Rattle.fec_units.specs.Parts.{part_of}
use Rattle.fec_units.proofs.Going.{IsGoing}
use Rattle.fec_units.proofs.bursts.burst_end.Given as goal

abbrev pub invariant-loop-end : goal.invariant-loop-end
invariant-loop-end l = record {
  used : l.used ≡ length (joined (part_of l.from l.end l.list));
  fits : l.used ≤ 191 * l.rows;
  next : l.next ≡ after_sections first_section (data_sizes (part_of l.from l.end l.list));
  few : l.next.packet ≤ 25 * l.end;
  going : IsGoing (fits_window l.rows l.columns l.slots) l.list l.from l.end;
}
