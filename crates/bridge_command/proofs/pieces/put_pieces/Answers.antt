use Rattle.std.proofs.Common.{◌++◌, List, ℕ, take, ap, sym, ◌∙◌, append_assoc, refl}
use Rattle.std.proofs.KnownBytes.{Appends-trans}
use Rattle.std.proofs.lemmas.Result.{err_from_is_err_and}
use Rattle.ipe_io.proofs.Told.{stays-trans}
use Rattle.wire_spec.specs.Lists.{joined}
use Rattle.bridge_command.proofs.Puts.{front_then, front_of_longer}
use Rattle.bridge_command.proofs.pieces.put_pieces.Goals as goal

pub loop-pieces-preserved : goal.loop-pieces-preserved
loop-pieces-preserved g c =
    let front : List ℕ = c.loop-pieces.invariant.0 in
    let batch : List ℕ = take c.fill_batch-end.result c.fill_batch-end.new.batch in (
      front ++ batch,
      record {
        size = c.fill_batch-end.ensures.size ∙ c.loop-pieces.invariant.1.size;
        room = c.fill_batch-end.ensures.same ∙ c.loop-pieces.invariant.1.room;
        all = c.loop-pieces.invariant.1.all ∙ (ap (λ l. front ++ l) c.fill_batch-end.ensures.written ∙ sym (append_assoc front batch (joined (g.P.Pieces.left c.fill_batch-end.new.pieces))));
        written = Appends-trans (g.O.Sink.told c.args.output.now).held (g.O.Sink.told c.loop-pieces.output).held (g.O.Sink.told c.put_all.new.sink).held front batch
            c.loop-pieces.invariant.1.written c.in_ok-put_all.ensures.written;
        stays = stays-trans (g.O.Sink.told c.args.output.now).flushed (g.O.Sink.told c.loop-pieces.output).flushed (g.O.Sink.told c.put_all.new.sink).flushed
            c.loop-pieces.invariant.1.stays c.in_ok-put_all.ensures.flushed;
        same = c.in_ok-put_all.ensures.cause.kept ∙ c.loop-pieces.invariant.1.same;
      },
    )

pub returns-in_err-put_all-clause-written : goal.returns-in_err-put_all-clause-written
returns-in_err-put_all-clause-written g c =
    let failed = err_from_is_err_and c.from_residual.result c.from_residual.ensures.1 in
    let front : List ℕ = c.loop-pieces.invariant.0 in
    let batch : List ℕ = take c.fill_batch-end.result c.fill_batch-end.new.batch in
    let rest : List ℕ = joined (g.P.Pieces.left c.fill_batch-end.new.pieces) in
    rw failed.1 (front_of_longer (g.O.Sink.told c.args.output.now).held (g.O.Sink.told c.put_all.new.sink).held (front ++ batch) rest (joined (g.P.Pieces.left c.args.pieces.now))
    (c.loop-pieces.invariant.1.all ∙ (ap (λ l. front ++ l) c.fill_batch-end.ensures.written ∙ sym (append_assoc front batch rest)))
    (front_then (g.O.Sink.told c.args.output.now).held (g.O.Sink.told c.loop-pieces.output).held (g.O.Sink.told c.put_all.new.sink).held front batch (front ++ batch) refl
    c.loop-pieces.invariant.1.written c.in_err-put_all.ensures.written))
