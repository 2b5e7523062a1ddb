use Rattle.std.proofs.Common.{arith}
use Rattle.fec_frame.proofs.RunsSolved.{marked_more, marked_same}
use Rattle.fec_frame.proofs.solving.mark_rows.Goals as goal

pub loop-j-preserved : goal.loop-j-preserved
loop-j-preserved c =
    marked_more c.args.rows c.loop-j.j c.args.from c.args.to c.args.bad.now c.args.marks.now c.loop-j.marks c.mark_unknown.new.marks c.requires.within
    c.loop-j.invariant c.mark_unknown.ensures.marked

pub mark_unknown-requires-clause-same : goal.mark_unknown-requires-clause-same
mark_unknown-requires-clause-same c =
    marked_same c.args.rows c.loop-j.j c.args.from c.args.to c.args.bad.now c.args.marks.now c.loop-j.marks c.requires.order c.requires.within (omega arith) c.requires.pattern c.loop-j.invariant
