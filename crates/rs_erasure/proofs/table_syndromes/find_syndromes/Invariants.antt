use Rattle.std.proofs.Common.{ℕ, ◌<◌, ◌≤◌, ◌-◌}
use Rattle.rs_erasure.specs.Syndromes.{HasSyndromes}
use Rattle.rs_erasure.proofs.table_syndromes.find_syndromes.Given as goal

abbrev pub invariant-loop-from : goal.invariant-loop-from
invariant-loop-from l = record {
  order : l.run.from ≤ l.from;
  within : l.from ≤ l.run.to;
  found : (r : ℕ) → l.run.from ≤ r → r < l.from → HasSyndromes l.run.rows l.table l.work r;
}

abbrev pub decreases-loop-from : goal.decreases-loop-from
decreases-loop-from l = l.run.to - l.from
