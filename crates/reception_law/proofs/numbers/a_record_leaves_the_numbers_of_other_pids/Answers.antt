use Rattle.reception_law.proofs.Sums.{before_stays, units_before_stay, frames_before_stay}
use Rattle.reception_law.proofs.numbers.a_record_leaves_the_numbers_of_other_pids.Goals as goal

pub returns : goal.returns
returns c = record { numbers = before_stays; units = units_before_stay; frames = frames_before_stay }
