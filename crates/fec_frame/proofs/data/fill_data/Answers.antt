use Rattle.fec_frame.specs.Stands.{data_fields}
use Rattle.fec_frame.proofs.Placing.{data_taken}
use Rattle.fec_frame.proofs.data.fill_data.Goals as goal

pub returns : goal.returns
returns c = record {
  taken = λ mac delta ends.
      data_taken c.args.rows c.args.bytes.now c.args.marks.now c.fill_after.new.bytes c.fill_after.new.marks c.fill_piece.new.bytes c.fill_piece.new.marks
      c.mark_start.new.marks c.mark_start-2.new.marks (data_fields mac delta c.args.address c.args.is_end ends c.args.datagram.now)
      c.fill_after.ensures.long c.fill_after.ensures.marks_long c.fill_after.ensures.byte c.fill_after.ensures.start
      c.fill_piece.ensures.filled c.mark_start.ensures.set c.mark_start-2.ensures.set;
}
