use Rattle.std.proofs.Common.{arith}
use Rattle.fec_frame.proofs.RunsSolved.{rows_more}
use Rattle.fec_frame.proofs.solving.solve_lacking.Goals as goal

pub loop-from-preserved : goal.loop-from-preserved
loop-from-preserved c = record {
  solved =
      rows_more c.args.rows c.loop-from.from c.pattern_end-to.result c.args.bytes.now c.args.marks.now c.loop-from.bytes c.loop-from.marks
      c.solve_run-counts.new.bytes c.solve_run-counts.new.marks c.loop-from.mended c.loop-from.left c.solve_run-counts.result.mended c.solve_run-counts.result.left
      (omega arith) (omega arith) c.loop-from.invariant.solved c.solve_run-counts.ensures.solved;
  most = omega arith;
  few = omega (arith, c.loop-from.invariant.few, c.solve_run-counts.ensures.few);
  values_most = c.solve_run-counts.ensures.most;
  syndromes = c.solve_run-counts.ensures.syndromes;
}
