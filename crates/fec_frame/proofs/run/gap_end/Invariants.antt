use Rattle.std.proofs.Common.{◌-◌, ◌≡◌, ◌≤◌, ◌<◌, ℕ, false}
use Rattle.std.specs.Prelude.{slice_index}
use Rattle.fec_frame.specs.Marks.{is_known_mark}
use Rattle.fec_frame.proofs.run.gap_end.Given as goal

abbrev pub invariant-loop-end : goal.invariant-loop-end
invariant-loop-end l = record {
  order : l.start ≤ l.end;
  within : l.end ≤ l.limit;
  unknown : (place : ℕ) → l.start ≤ place → place < l.end → is_known_mark (slice_index l.marks place) ≡ false;
}

abbrev pub decreases-loop-end : goal.decreases-loop-end
decreases-loop-end l = l.limit - l.end

abbrev pub invariant-loop-end-2 : goal.invariant-loop-end-2
invariant-loop-end-2 l = record {
  order : l.start ≤ l.end;
  within : l.end ≤ l.limit;
  unknown : (place : ℕ) → l.start ≤ place → place < l.end → is_known_mark (slice_index l.marks place) ≡ false;
}

abbrev pub decreases-loop-end-2 : goal.decreases-loop-end-2
decreases-loop-end-2 l = l.limit - l.end

abbrev pub invariant-loop-end-3 : goal.invariant-loop-end-3
invariant-loop-end-3 l = record {
  order : l.start ≤ l.end;
  within : l.end ≤ l.limit;
  unknown : (place : ℕ) → l.start ≤ place → place < l.end → is_known_mark (slice_index l.marks place) ≡ false;
}

abbrev pub decreases-loop-end-3 : goal.decreases-loop-end-3
decreases-loop-end-3 l = l.limit - l.end
