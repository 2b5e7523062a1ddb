use Rattle.std.proofs.Common.{◌≡◌, ◌<◌, ◌≤◌, ℕ, false, drop, length}
use Rattle.fec_spec.specs.Row.{is_among}
use Rattle.fec_frame.proofs.left.data_columns.Given as goal

abbrev pub invariant-loop-count : goal.invariant-loop-count
invariant-loop-count l = record {
  most : l.count ≤ length l.unknown;
  others : (j : ℕ) → j < 191 → is_among j (drop l.count l.unknown) ≡ false;
}

abbrev pub decreases-loop-count : goal.decreases-loop-count
decreases-loop-count l = l.count
