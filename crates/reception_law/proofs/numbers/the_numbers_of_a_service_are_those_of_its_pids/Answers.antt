use Rattle.reception_law.proofs.Sums.{numbers_are, units_are, frames_are, told_frames_are}
use Rattle.reception_law.proofs.numbers.the_numbers_of_a_service_are_those_of_its_pids.Goals as goal

pub returns : goal.returns
returns c = record { numbers = numbers_are; units = units_are; frames = frames_are; told_frames = told_frames_are }
