use Rattle.std.proofs.Common.{◌-◌, ◌∙◌, length, take, drop, rules}
use Rattle.std.proofs.KnownBytes.{Appends-trans}
use Rattle.ipe_io.proofs.Told.{stays-trans}
use Rattle.ipe_io.proofs.Buffers.{take-more}
use Rattle.ipe_io.proofs.helpers.put_all.Goals as goal

pub loop-done-preserved : goal.loop-done-preserved
loop-done-preserved g c = record {
  within = search rules;
  written = rw (take-more c.args.piece.now c.loop-done.done c.in_ok-done.field-0 c.in_ok-done.ensures.bound)
      (Appends-trans (g.K.Sink.told c.args.sink.now).held (g.K.Sink.told c.loop-done.sink).held (g.K.Sink.told c.write.new.self).held (take c.loop-done.done c.args.piece.now) (take c.in_ok-done.field-0 (take (length c.args.piece.now - c.loop-done.done) (drop c.loop-done.done c.args.piece.now))) c.loop-done.invariant.written c.in_ok-done.ensures.written);
  flushed = stays-trans (g.K.Sink.told c.args.sink.now).flushed (g.K.Sink.told c.loop-done.sink).flushed (g.K.Sink.told c.write.new.self).flushed c.loop-done.invariant.flushed c.in_ok-done.ensures.flushed;
  same = c.in_ok-done.ensures.cause.kept ∙ c.loop-done.invariant.same;
}
