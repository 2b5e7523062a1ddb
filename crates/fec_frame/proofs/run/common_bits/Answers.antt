use Rattle.std.proofs.Common.{◌+◌, true, get_or}
use Rattle.fec_frame.specs.Marks.{is_known_mark}
use Rattle.fec_frame.proofs.Blocks.{both_known, one_more}
use Rattle.fec_frame.proofs.run.common_bits.Goals as goal

pub loop-i-preserved : goal.loop-i-preserved
loop-i-preserved c = λ both.
    let p = both_known c.loop-i.bits (get_or c.args.marks.now (c.args.from + c.loop-i.i) 0) both in
    one_more is_known_mark true c.args.marks.now c.args.from c.loop-i.i (c.loop-i.invariant p.0) p.1
