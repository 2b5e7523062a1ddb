use Rattle.mpe_section.proofs.Written.{real_time-mpe_of}
use Rattle.mpe_section.proofs.laws.an_address_and_parameters_are_two_readings.Goals as goal

pub returns : goal.returns
returns c = record { agree = real_time-mpe_of }
