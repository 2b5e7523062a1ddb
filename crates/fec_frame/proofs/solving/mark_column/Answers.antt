use Rattle.std.proofs.Common.{◌<◌, arith}
use Rattle.std.proofs.lemmas.Nat.{mul-add-lt}
use Rattle.fec_frame.proofs.RunsSolved.{column_more}
use Rattle.fec_frame.proofs.solving.mark_column.Goals as goal

pub loop-r-preserved : goal.loop-r-preserved
loop-r-preserved c =
    let low : c.loop-r.r < c.args.rows = omega arith in
    let inside = mul-add-lt c.args.j c.args.rows c.loop-r.r 255 c.requires.column low in
    column_more c.args.rows c.args.j c.args.from c.loop-r.r c.args.bad.now c.args.marks.now c.loop-r.marks c.with_row.result
    (omega arith) low (omega (arith, inside, c.loop-r.invariant.long)) c.with_row.ensures.known c.with_row.ensures.start c.loop-r.invariant
