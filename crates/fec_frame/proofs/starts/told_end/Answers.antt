use Rattle.fec_frame.proofs.Told.{whole_run}
use Rattle.fec_frame.proofs.starts.told_end.Goals as goal

pub returns-then-has_all_data : goal.returns-then-has_all_data
returns-then-has_all_data c = record {
  run = λ bytes marks told some. whole_run c.args.rows bytes marks c.args.state.now told (c.has_all_data.ensures.yes c.if-has_all_data.true);
}
