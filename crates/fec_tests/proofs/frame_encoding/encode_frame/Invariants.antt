use Rattle.std.proofs.Common.{◌*◌, ◌≡◌, take}
use Rattle.rs_encode.specs.Encoding.{Stands, buffer_of, pushed_of, rows_of}
use Rattle.fec_tests.proofs.frame_encoding.encode_frame.Given as goal

abbrev pub invariant-loop-column : goal.invariant-loop-column
invariant-loop-column l = record {
  rows : rows_of l.columns ≡ l.rows;
  pushed : pushed_of l.columns ≡ l.column;
  same_buffer : buffer_of l.columns ≡ buffer_of l.initial.columns;
  stands : Stands l.columns (take (l.column * l.rows) l.table);
}
