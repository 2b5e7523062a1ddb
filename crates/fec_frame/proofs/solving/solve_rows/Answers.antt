use Rattle.fec_frame.proofs.RunsSolved.{all_known}
use Rattle.fec_frame.proofs.Told.{told_run}
use Rattle.fec_frame.proofs.solving.solve_rows.Goals as goal

pub returns-then-has_all_data-clause-solved : goal.returns-then-has_all_data-clause-solved
returns-then-has_all_data-clause-solved c =
    all_known c.args.rows c.args.bytes.now c.args.marks.now
    (told_run c.args.rows c.args.bytes.now c.args.marks.now c.args.state.now c.requires.told (c.has_all_data.ensures.yes c.if-has_all_data.true))

pub returns-else-has_all_data-clause-told : goal.returns-else-has_all_data-clause-told
returns-else-has_all_data-clause-told c = c.without_known.ensures.told c.solve_lacking.new.bytes c.solve_lacking.new.marks
