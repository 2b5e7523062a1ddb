use Rattle.std.proofs.Common.{ℕ, List, [], ◌∙◌, ◌+◌, arith, refl, subst, map, drop, get_or, Bor}
use Rattle.std.proofs.lemmas.Result.{err_from_is_err_and}
use Rattle.wire_spec.specs.Lists.{joined}
use Rattle.ipe_io.proofs.Told.{stays-refl, stays-trans}
use Rattle.settings_load.proofs.Texts.{IsPutTo, none_put, more_put, all_put, part_put, joined_more, joined_none}
use Rattle.settings_load.proofs.pieces.put_pieces.Goals as goal

abbrev none : Bor (List ℕ)
none = record { ref_ptr = (0, 0); now = [] }

abbrev text_of : Bor (List ℕ) → List ℕ
text_of piece = piece.now

pub loop-piece-init : goal.loop-piece-init
loop-piece-init g c = record { written = none_put _ _; flushed = stays-refl _; same = refl }

pub loop-piece-preserved : goal.loop-piece-preserved
loop-piece-preserved g c =
    let pieces : List (Bor (List ℕ)) = c.args.pieces.now in
    let at : ℕ = c.loop-piece.piece-index in
    record {
      written = more_put (g.K.Sink.told c.args.sink.now).held (g.K.Sink.told c.loop-piece.sink).held (g.K.Sink.told c.put_all.new.sink).held
          (joined (map text_of pieces)) (get_or pieces at none).now (joined (map text_of (drop (at + 1) pieces)))
          (subst (λ (t : List ℕ). IsPutTo (g.K.Sink.told c.args.sink.now).held (g.K.Sink.told c.loop-piece.sink).held (joined (map text_of pieces)) t)
          (joined_more text_of pieces at none (omega arith)) c.loop-piece.invariant.written)
          c.in_ok-put_all.ensures.written;
      flushed = stays-trans (g.K.Sink.told c.args.sink.now).flushed (g.K.Sink.told c.loop-piece.sink).flushed (g.K.Sink.told c.put_all.new.sink).flushed c.loop-piece.invariant.flushed c.in_ok-put_all.ensures.flushed;
      same = c.in_ok-put_all.ensures.cause.kept ∙ c.loop-piece.invariant.same;
    }

pub returns-in_err-put_all-clause-written : goal.returns-in_err-put_all-clause-written
returns-in_err-put_all-clause-written g c =
    let pieces : List (Bor (List ℕ)) = c.args.pieces.now in
    let at : ℕ = c.loop-piece.piece-index in
    let failed = err_from_is_err_and c.from_residual.result c.from_residual.ensures.1 in
    rw failed.1 (part_put (g.K.Sink.told c.args.sink.now).held (g.K.Sink.told c.loop-piece.sink).held (g.K.Sink.told c.put_all.new.sink).held
    (joined (map text_of pieces)) (get_or pieces at none).now (joined (map text_of (drop (at + 1) pieces)))
    (subst (λ (t : List ℕ). IsPutTo (g.K.Sink.told c.args.sink.now).held (g.K.Sink.told c.loop-piece.sink).held (joined (map text_of pieces)) t)
    (joined_more text_of pieces at none (omega arith)) c.loop-piece.invariant.written)
    c.in_err-put_all.ensures.written)

pub returns-in_err-put_all-clause-flushed : goal.returns-in_err-put_all-clause-flushed
returns-in_err-put_all-clause-flushed g c =
    stays-trans (g.K.Sink.told c.args.sink.now).flushed (g.K.Sink.told c.loop-piece.sink).flushed (g.K.Sink.told c.put_all.new.sink).flushed c.loop-piece.invariant.flushed c.in_err-put_all.ensures.flushed

pub returns-clause-written : goal.returns-clause-written
returns-clause-written g c =
    all_put _ _ _ (joined (map text_of (drop c.loop-piece.piece-index c.args.pieces.now))) (joined_none text_of c.args.pieces.now c.loop-piece.piece-index (omega arith)) c.loop-piece.invariant.written
