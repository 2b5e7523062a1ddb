use Rattle.std.proofs.Common.{◌∙◌, sym, subst, ◌++◌, ◌∷◌, [], ℕ}
use Rattle.recording_reader.proofs.Advance.{taken_at, reads_at, steps_true, steps_false, tail_is}
use Rattle.recording_reader.proofs.reading.read_to_end.Goals as goal

pub pieces-preserved : goal.pieces-preserved
pieces-preserved g c =
    let inv = c.pieces.invariant in
    let form_is = inv.5 in
    let size_is = inv.6 in
    let content_is = inv.7 in
    let on = steps_true c.in-Ok-true.field-0 _ _ _ _ _ _ _ _ inv.0 c.in-Ok-true.field-0-test
    (c.in-Ok-true.ensures.steps c.args.taker.now c.args.into.now (g.I.Source.told c.args.input.now) inv.0 inv.1
    (taken_at _ _ _ _ _ _ _ inv.0 (sym form_is) (sym size_is) inv.2)) in
    let same = c.in-Ok-true.ensures.same in (
      inv.0 ++ on.piece ∷ [],
      on.has_read,
      taken_at _ _ _ _ _ _ _ (inv.0 ++ on.piece ∷ []) form_is size_is on.going,
      c.in-Ok-true.ensures.room,
      subst (λ (n : ℕ). g.T.Taker.Ready c.give.new.taker c.give.new.into n) content_is c.in-Ok-true.ensures.ready,
      same.0 ∙ form_is,
      same.1 ∙ size_is,
      same.2 ∙ content_is,
    )

pub returns-in-Ok-false-clause-reads : goal.returns-in-Ok-false-clause-reads
returns-in-Ok-false-clause-reads g c =
    let inv = c.pieces.invariant in
    let form_is = inv.5 in
    let size_is = inv.6 in
    tail_is _ c.tail.result _ _ _ _ _ _ c.tail.ensures.read
    (reads_at _ _ _ _ _ _ _ _ _ form_is size_is
    (steps_false c.in-Ok-false.field-0 _ _ _ _ _ _ _ _ inv.0 c.in-Ok-false.field-0-test
    (c.in-Ok-false.ensures.steps c.args.taker.now c.args.into.now (g.I.Source.told c.args.input.now) inv.0 inv.1
    (taken_at _ _ _ _ _ _ _ inv.0 (sym form_is) (sym size_is) inv.2))))

pub returns-in-Err-clause-reads : goal.returns-in-Err-clause-reads
returns-in-Err-clause-reads g c =
    let inv = c.pieces.invariant in
    let form_is = inv.5 in
    let size_is = inv.6 in
    reads_at _ _ _ _ _ _ _ _ _ form_is size_is
    (c.in-Err.ensures.steps c.args.taker.now c.args.into.now (g.I.Source.told c.args.input.now) inv.0 inv.1
    (taken_at _ _ _ _ _ _ _ inv.0 (sym form_is) (sym size_is) inv.2))
