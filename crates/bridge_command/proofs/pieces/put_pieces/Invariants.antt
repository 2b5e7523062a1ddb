use Rattle.std.proofs.Common.{◌≡◌, ◌++◌, length, ℕ, List}
use Rattle.std.specs.Io.KnownBytes.{Appends}
use Rattle.wire_spec.specs.Content.{Stays}
use Rattle.wire_spec.specs.Lists.{joined}
use Rattle.bridge_command.proofs.pieces.put_pieces.Given as goal

abbrev pub invariant-loop-pieces : goal.invariant-loop-pieces
invariant-loop-pieces g l = (front : List ℕ) × record {
  size : g.P.Pieces.size l.pieces ≡ g.P.Pieces.size l.initial.pieces;
  room : length l.batch ≡ length l.initial.batch;
  all : joined (g.P.Pieces.left l.initial.pieces) ≡ front ++ joined (g.P.Pieces.left l.pieces);
  written : Appends (g.O.Sink.told l.initial.output).held (g.O.Sink.told l.output).held front;
  stays : Stays (g.O.Sink.told l.initial.output).flushed (g.O.Sink.told l.output).flushed;
  same : (g.O.Sink.told l.output).faults ≡ (g.O.Sink.told l.initial.output).faults;
}

abbrev pub decreases-loop-pieces : goal.decreases-loop-pieces
decreases-loop-pieces g l = length (g.P.Pieces.left l.pieces)
