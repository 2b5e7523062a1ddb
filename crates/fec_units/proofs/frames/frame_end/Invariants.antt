-- The datagrams up to here are in one frame, if no more come.
use Rattle.std.proofs.Common.{◌≡◌, ◌*◌, ◌≤◌, length}
use Rattle.wire_spec.specs.Lists.{joined}
use Rattle.fec_frame_spec.specs.Sender.{fits_table}
use Rattle.fec_units.specs.Parts.{part_of}
use Rattle.fec_units.proofs.Going.{IsGoing}
use Rattle.fec_units.proofs.frames.frame_end.Given as goal

abbrev pub invariant-loop-end : goal.invariant-loop-end
invariant-loop-end l = record {
  used : l.used ≡ length (joined (part_of l.from l.end l.list));
  fits : l.used ≤ 191 * l.rows;
  going : IsGoing (fits_table l.rows) l.list l.from l.end;
}
