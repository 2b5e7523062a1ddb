use Rattle.std.proofs.Common.{◌+◌, false, get_or}
use Rattle.fec_frame.specs.Marks.{is_known_mark, is_start_mark}
use Rattle.fec_frame.proofs.Blocks.{none_known, none_start, one_more}
use Rattle.fec_frame.proofs.run.any_bits.Goals as goal

pub loop-i-preserved : goal.loop-i-preserved
loop-i-preserved c = record {
  unknown = λ none.
      let p = none_known c.loop-i.bits (get_or c.args.marks.now (c.args.from + c.loop-i.i) 0) none in
      one_more is_known_mark false c.args.marks.now c.args.from c.loop-i.i (c.loop-i.invariant.unknown p.0) p.1;
  no_start = λ none.
      let p = none_start c.loop-i.bits (get_or c.args.marks.now (c.args.from + c.loop-i.i) 0) none in
      one_more is_start_mark false c.args.marks.now c.args.from c.loop-i.i (c.loop-i.invariant.no_start p.0) p.1;
}
