use Rattle.fec_frame_spec.specs.Sections.{data_of}
use Rattle.fec_frame.proofs.Ended.{solved_is, mended_is, left_is}
use Rattle.fec_frame.proofs.Told.{told_same}
use Rattle.fec_frame.proofs.finish.solve_table.Goals as goal

pub returns : goal.returns
returns c = record {
  told =
      told_same c.args.rows c.solve_rows-counts.new.bytes c.solve_rows-counts.new.marks c.mark_starts.new.marks c.solve_rows-counts.new.state c.mark_starts.ensures.known
      c.solve_rows-counts.ensures.told;
  solved = λ sections stands.
      solved_is c.args.rows c.args.bytes.now c.args.marks.now c.solve_rows-counts.new.bytes c.solve_rows-counts.new.marks c.solve_rows-counts.result.mended c.solve_rows-counts.result.left
      c.solve_rows-counts.ensures.solved c.args.state.now sections stands c.requires.rows_some c.mark_starts.new.marks c.mark_starts.ensures.known
      (c.mark_starts.ensures.marked (data_of sections)) c.solve_rows-counts.new.state c.solve_rows-counts.ensures.empty;
  mended = λ sections stands.
      mended_is c.args.rows c.args.bytes.now c.args.marks.now c.solve_rows-counts.new.bytes c.solve_rows-counts.new.marks c.solve_rows-counts.result.mended c.solve_rows-counts.result.left
      c.solve_rows-counts.ensures.solved c.args.state.now sections stands;
  left = λ sections stands.
      left_is c.args.rows c.args.bytes.now c.args.marks.now c.solve_rows-counts.new.bytes c.solve_rows-counts.new.marks c.solve_rows-counts.result.mended c.solve_rows-counts.result.left
      c.solve_rows-counts.ensures.solved c.args.state.now sections stands;
}
