use Rattle.std.proofs.Common.{◌≤◌, take}
use Rattle.ipe_io.specs.Real.{AreKept, unwritten}
use Rattle.ipe_io.proofs.file_rack.flush_each.Given as goal

abbrev pub invariant-loop-at : goal.invariant-loop-at
invariant-loop-at g l = record {
  most : l.failed ≤ l.at;
  kept : AreKept l.initial.files l.files;
  counted : unwritten (take l.at l.files) ≤ l.failed;
}
