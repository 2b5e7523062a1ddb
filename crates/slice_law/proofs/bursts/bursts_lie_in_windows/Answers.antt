use Rattle.slice_law.proofs.Rows.{in_a_row, of_parts}
use Rattle.slice_law.proofs.bursts.bursts_lie_in_windows.Goals as goal

pub returns-clause-row : goal.returns-clause-row
returns-clause-row c = in_a_row

pub returns-clause-parts : goal.returns-clause-parts
returns-clause-parts c = of_parts
