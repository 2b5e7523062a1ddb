use Rattle.std.proofs.Common.{ℕ, ◌≡◌, ◌+◌, ◌-◌, ◌<◌, ◌≤◌, ◌⊎◌, drop, length}
use Rattle.erasure_law.specs.Roots.{combined, root_polynomial}
use Rattle.rs_erasure.specs.Columns.{cell}
use Rattle.rs_erasure.proofs.elimination.eliminate.Given as goal

abbrev pub invariant-loop-left : goal.invariant-loop-left
invariant-loop-left l = record {
  is : (syndromes : ℕ → ℕ) (r : ℕ) → l.fn.run.from ≤ r → r < l.fn.run.to
      → ((j : ℕ) → l.fn.done ≤ j → j < 64 → cell l.fn.run.rows l.fn.work j r ≡ combined (root_polynomial (drop (length l.roots - l.fn.done) l.roots)) syndromes (j - l.fn.done))
      → (j : ℕ) → l.fn.done ≤ j → j < 64
      → cell l.fn.run.rows l.work j r ≡ combined (root_polynomial (drop (l.left + (length l.roots - l.left - j)) l.roots)) syndromes (j - (length l.roots - l.left));
  outside : (j r : ℕ) → r < l.fn.run.rows → (r < l.fn.run.from) ⊎ (l.fn.run.to ≤ r) → cell l.fn.run.rows l.work j r ≡ cell l.fn.run.rows l.fn.work j r;
  within : l.left + l.fn.done ≤ length l.roots;
}

abbrev pub decreases-loop-left : goal.decreases-loop-left
decreases-loop-left l = l.left
