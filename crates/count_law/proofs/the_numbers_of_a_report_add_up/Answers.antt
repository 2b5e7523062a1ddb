use Rattle.count_law.proofs.Report.{bytes_add_up, pieces_add_up, units_add_up}
use Rattle.count_law.proofs.the_numbers_of_a_report_add_up.Goals as goal

pub returns : goal.returns
returns c = record { bytes = bytes_add_up; records = pieces_add_up; units = units_add_up }
