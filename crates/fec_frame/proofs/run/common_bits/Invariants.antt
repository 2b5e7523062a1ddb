use Rattle.std.proofs.Common.{◌≡◌, ◌+◌, ◌<◌, ◌≤◌, ℕ, true}
use Rattle.std.specs.Prelude.{slice_index}
use Rattle.fec_frame.specs.Marks.{is_known_mark}
use Rattle.fec_frame.proofs.run.common_bits.Given as goal

abbrev pub invariant-loop-i : goal.invariant-loop-i
invariant-loop-i l = is_known_mark l.bits ≡ true → (place : ℕ) → l.from ≤ place → place < l.from + l.i → is_known_mark (slice_index l.marks place) ≡ true
