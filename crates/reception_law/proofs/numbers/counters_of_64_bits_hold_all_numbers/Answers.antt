use Rattle.reception_law.proofs.Few.{few_in_all, few_numbers, few_unit_numbers, few_before, few_units_before, few_of_all, few_units_of_all, few_frame_numbers, few_frames_before, few_frames_of_all, few_frames_told}
use Rattle.reception_law.proofs.numbers.counters_of_64_bits_hold_all_numbers.Goals as goal

pub returns : goal.returns
returns c = record {
  events = few_in_all;
  on = few_numbers;
  units_on = few_unit_numbers;
  before = few_before;
  units_before = few_units_before;
  all = few_of_all;
  units_of_all = few_units_of_all;
  frames_on = few_frame_numbers;
  frames_before = few_frames_before;
  frames_of_all = few_frames_of_all;
  frames_told = few_frames_told;
}
