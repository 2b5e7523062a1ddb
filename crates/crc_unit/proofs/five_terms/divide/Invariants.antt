use Rattle.std.proofs.Common.{◌≡◌, ◌+◌, ◌<◌, ◌≤◌, ℕ, length, get_or}
use Rattle.wire_spec.specs.Bytes.{AreBytes}
use Rattle.std.specs.Int.{w32, to_be_bytes}
use Rattle.crc_unit.specs.FiveTerms.{left_at}
use Rattle.crc_unit.proofs.five_terms.divide.Given as goal

abbrev pub invariant-loop-place : goal.invariant-loop-place
invariant-loop-place l = record {
  long : length l.window ≡ 1691;
  bytes : AreBytes l.window;
  own : (i : ℕ) → i < 4 → get_or l.window i 0 ≡ get_or (to_be_bytes w32 l.fn.register) i 0;
  before : (i : ℕ) → 4 ≤ i → i < 300 → get_or l.window i 0 ≡ 0;
  quotient : (i : ℕ) → i < l.place → get_or l.window (i + 300) 0 ≡ left_at l.window i (get_or l.bytes i 0);
  behind : (i : ℕ) → l.place + 300 ≤ i → get_or l.window i 0 ≡ 0;
}
