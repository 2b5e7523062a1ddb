use Rattle.std.proofs.Common.{◌≡◌, map, drop}
use Rattle.wire_spec.specs.Content.{Stays}
use Rattle.wire_spec.specs.Lists.{joined}
use Rattle.settings_load.proofs.Texts.{IsPutTo}
use Rattle.settings_load.proofs.pieces.put_pieces.Given as goal

-- the pieces before this one were appended
abbrev pub invariant-loop-piece : goal.invariant-loop-piece
invariant-loop-piece g l = record {
  written : IsPutTo (g.K.Sink.told l.fn.sink).held (g.K.Sink.told l.sink).held (joined (map (λ piece. piece.now) l.pieces)) (joined (map (λ piece. piece.now) (drop l.piece-index l.pieces)));
  flushed : Stays (g.K.Sink.told l.fn.sink).flushed (g.K.Sink.told l.sink).flushed;
  same : (g.K.Sink.told l.sink).faults ≡ (g.K.Sink.told l.fn.sink).faults;
}
