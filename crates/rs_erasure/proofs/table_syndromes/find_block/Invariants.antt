use Rattle.std.proofs.Common.{ℕ, ◌≡◌, ◌⊎◌, ◌<◌, ◌≤◌}
use Rattle.fec_spec.specs.Table.{table_row}
use Rattle.erasure_law.specs.Roots.{syndromes_of}
use Rattle.rs_erasure.specs.Columns.{cell}
use Rattle.rs_erasure.proofs.table_syndromes.find_block.Given as goal

abbrev pub invariant-loop-m : goal.invariant-loop-m
invariant-loop-m l = record {
  found : (r : ℕ) → l.fn.run.from ≤ r → r < l.fn.run.to → (k : ℕ) → k < l.m → cell l.fn.run.rows l.work k r ≡ syndromes_of (table_row 255 l.fn.run.rows l.table r) k;
  outside : (j r : ℕ) → r < l.fn.run.rows → (r < l.fn.run.from) ⊎ (l.fn.run.to ≤ r) → cell l.fn.run.rows l.work j r ≡ cell l.fn.run.rows l.fn.work j r;
}
