use Rattle.std.proofs.Common.{subst, ℕ}
use Rattle.wire_spec.specs.Causes.{Rose}
use Rattle.ipe_io.proofs.Told.{stays-trans}
use Rattle.wire_spec.specs.Lists.{joined}
use Rattle.bridge_command.proofs.Batches.{wrote_unflushed}
use Rattle.bridge_command.proofs.pieces.write_pieces.Goals as goal

pub returns : goal.returns
returns g c = record {
  writes = wrote_unflushed (joined (g.P.Pieces.left c.args.pieces.now)) (g.O.Sink.told c.args.output.now) (g.O.Sink.told c.put_pieces.new.output) (g.O.Sink.told c.flush.new.self)
      c.in-Ok-put_pieces.ensures.written c.in-Err-flush.ensures.kept
      (stays-trans (g.O.Sink.told c.args.output.now).flushed (g.O.Sink.told c.put_pieces.new.output).flushed (g.O.Sink.told c.flush.new.self).flushed c.in-Ok-put_pieces.ensures.flushed c.in-Err-flush.ensures.unchanged)
      (subst (λ (n : ℕ). Rose n (g.O.Sink.told c.flush.new.self).faults) c.in-Ok-put_pieces.ensures.cause.kept c.in-Err-flush.ensures.cause.failed);
}
