use Rattle.std.proofs.Common.{◌-◌, ◌≡◌, ◌≤◌, ◌<◌, ℕ, false}
use Rattle.std.specs.Prelude.{slice_index}
use Rattle.fec_frame.specs.Marks.{is_start_mark}
use Rattle.fec_frame.proofs.run.next_start.Given as goal

abbrev pub invariant-loop-place : goal.invariant-loop-place
invariant-loop-place l = record {
  order : l.from ≤ l.place;
  within : l.place ≤ l.limit;
  none : (place : ℕ) → l.from ≤ place → place < l.place → is_start_mark (slice_index l.marks place) ≡ false;
}

abbrev pub decreases-loop-place : goal.decreases-loop-place
decreases-loop-place l = l.limit - l.place

abbrev pub invariant-loop-place-2 : goal.invariant-loop-place-2
invariant-loop-place-2 l = record {
  order : l.from ≤ l.place;
  within : l.place ≤ l.limit;
  none : (place : ℕ) → l.from ≤ place → place < l.place → is_start_mark (slice_index l.marks place) ≡ false;
}

abbrev pub decreases-loop-place-2 : goal.decreases-loop-place-2
decreases-loop-place-2 l = l.limit - l.place

abbrev pub invariant-loop-place-3 : goal.invariant-loop-place-3
invariant-loop-place-3 l = record {
  order : l.from ≤ l.place;
  within : l.place ≤ l.limit;
  none : (place : ℕ) → l.from ≤ place → place < l.place → is_start_mark (slice_index l.marks place) ≡ false;
}

abbrev pub decreases-loop-place-3 : goal.decreases-loop-place-3
decreases-loop-place-3 l = l.limit - l.place
