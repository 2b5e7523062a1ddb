use Rattle.std.proofs.Common.{◌≡◌, ◌+◌, ◌<◌, ◌≤◌, ℕ, false}
use Rattle.std.specs.Prelude.{slice_index}
use Rattle.fec_frame.specs.Marks.{is_known_mark, is_start_mark}
use Rattle.fec_frame.proofs.run.any_bits.Given as goal

abbrev pub invariant-loop-i : goal.invariant-loop-i
invariant-loop-i l = record {
  unknown : is_known_mark l.bits ≡ false → (place : ℕ) → l.from ≤ place → place < l.from + l.i → is_known_mark (slice_index l.marks place) ≡ false;
  no_start : is_start_mark l.bits ≡ false → (place : ℕ) → l.from ≤ place → place < l.from + l.i → is_start_mark (slice_index l.marks place) ≡ false;
}
