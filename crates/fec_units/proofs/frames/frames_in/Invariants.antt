-- The frames so far, and those of the datagrams that are left.
use Rattle.std.proofs.Common.{◌≡◌, ◌+◌, ◌-◌, ◌≤◌, length, drop}
use Rattle.stream_spec.specs.Units.{datagrams_by_frame}
use Rattle.fec_units.proofs.frames.frames_in.Given as goal

abbrev pub invariant-loop-from : goal.invariant-loop-from
invariant-loop-from l = record {
  counted : l.frames + length (datagrams_by_frame l.rows (drop l.from l.list)) ≡ length (datagrams_by_frame l.rows l.list);
  few : l.frames ≤ l.from;
  within : l.from ≤ length l.list;
}

abbrev pub decreases-loop-from : goal.decreases-loop-from
decreases-loop-from l = length l.list - l.from
