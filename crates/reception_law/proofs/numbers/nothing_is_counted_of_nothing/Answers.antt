use Rattle.reception_law.proofs.Sums.{before_none, units_before_none, frames_before_none, told_frames_none}
use Rattle.reception_law.proofs.numbers.nothing_is_counted_of_nothing.Goals as goal

pub returns : goal.returns
returns c = record {
  numbers = before_none;
  units = units_before_none;
  frames = frames_before_none;
  told_frames = told_frames_none;
}
