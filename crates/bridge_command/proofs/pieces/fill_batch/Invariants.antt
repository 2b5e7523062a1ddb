use Rattle.std.proofs.Common.{◌≡◌, ◌≤◌, ◌<◌, ◌-◌, ◌++◌, length, take}
use Rattle.wire_spec.specs.Lists.{joined}
use Rattle.bridge_command.proofs.pieces.fill_batch.Given as goal

abbrev pub invariant-loop-batch : goal.invariant-loop-batch
invariant-loop-batch g l = record {
  within : l.end ≤ length l.batch;
  same : length l.batch ≡ length l.initial.batch;
  size : g.P.Pieces.size l.pieces ≡ l.size;
  written : joined (g.P.Pieces.left l.initial.pieces) ≡ take l.end l.batch ++ joined (g.P.Pieces.left l.pieces);
  fewer : length (g.P.Pieces.left l.pieces) ≤ length (g.P.Pieces.left l.initial.pieces);
  begun : 0 < l.end → length (g.P.Pieces.left l.pieces) < length (g.P.Pieces.left l.initial.pieces);
}

abbrev pub decreases-loop-batch : goal.decreases-loop-batch
decreases-loop-batch g l = length l.batch - l.end
