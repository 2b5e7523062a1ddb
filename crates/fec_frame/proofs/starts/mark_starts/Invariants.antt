use Rattle.std.proofs.Common.{◌-◌, ◌*◌, ◌≡◌, ◌≤◌, ◌<◌, true}
use Rattle.std.specs.Prelude.{slice_index}
use Rattle.fec_frame.specs.Marks.{IsRun, is_start_mark}
use Rattle.fec_frame.specs.Marking.{AreMarkedUpTo}
use Rattle.fec_frame.proofs.starts.mark_starts.Given as goal

abbrev pub invariant-loop-place : goal.invariant-loop-place
invariant-loop-place l = record {
  within : l.place ≤ l.zeros_from;
  marked : AreMarkedUpTo l.bytes l.initial.marks l.marks (191 * l.rows) l.place;
  start : l.place < l.zeros_from → is_start_mark (slice_index l.marks l.place) ≡ true;
  run : l.place < l.end → IsRun l.marks (191 * l.rows) l.place l.end;
}

abbrev pub decreases-loop-place : goal.decreases-loop-place
decreases-loop-place l = l.zeros_from - l.place
