use Rattle.std.proofs.Common.{◌≡◌, ◌+◌, ◌<◌, ℕ, length, get_or}
use Rattle.crc_unit.specs.FiveTerms.{left_at}
use Rattle.crc_unit.proofs.five_terms.subtract.Given as goal

abbrev pub invariant-loop-place : goal.invariant-loop-place
invariant-loop-place l = record {
  long : length l.rest ≡ 304;
  left : (i : ℕ) → i < l.place → get_or l.rest i 0 ≡ left_at l.window (l.count + i) (get_or l.behind i 0);
}
