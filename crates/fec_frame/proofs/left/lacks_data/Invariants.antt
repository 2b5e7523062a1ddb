use Rattle.std.proofs.Common.{◌≡◌, ◌<◌, ◌+◌, ◌*◌, true, ℕ}
use Rattle.std.specs.Prelude.{slice_index}
use Rattle.fec_frame.specs.Marks.{is_known_mark}
use Rattle.fec_frame.proofs.left.lacks_data.Given as goal

abbrev pub invariant-loop-j : goal.invariant-loop-j
invariant-loop-j l = (k : ℕ) → k < l.j → is_known_mark (slice_index l.marks (k * l.rows + l.r)) ≡ true
