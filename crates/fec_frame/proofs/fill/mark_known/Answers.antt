use Rattle.std.proofs.Common.{arith}
use Rattle.fec_frame.proofs.Filling.{marked_none, marked_more}
use Rattle.fec_frame.proofs.fill.mark_known.Goals as goal

pub loop-place-init : goal.loop-place-init
loop-place-init c = marked_none c.args.marks.now c.args.from

pub loop-place-preserved : goal.loop-place-preserved
loop-place-preserved c =
    marked_more c.args.marks.now c.loop-place.marks c.args.from c.loop-place.place c.with_known.result (omega arith)
    (omega (arith, c.loop-place.invariant.long)) c.with_known.ensures.known c.with_known.ensures.start c.loop-place.invariant
