-- The columns so far.
use Rattle.std.proofs.Common.{◌≡◌, ◌*◌, drop}
use Rattle.wire_spec.specs.Lists.{joined}
use Rattle.rs_encode.specs.Encoding.{Stands, buffer_of, pushed_of, rows_of}
use Rattle.fec_units.specs.Parts.{IsWithin, bytes_left, padded, part_of}
use Rattle.fec_units.proofs.columns.encode_frame.Given as goal

abbrev pub invariant-loop-number : goal.invariant-loop-number
invariant-loop-number l = record {
  rows : rows_of l.columns ≡ l.rows;
  pushed : pushed_of l.columns ≡ l.number;
  same_buffer : buffer_of l.columns ≡ buffer_of l.initial.columns;
  within : IsWithin l.list l.end l.at;
  left : bytes_left l.list l.end l.at ≡ drop (l.number * l.rows) (joined (part_of l.from l.end l.list));
  stands : Stands l.columns (padded (l.number * l.rows) (joined (part_of l.from l.end l.list)));
}
