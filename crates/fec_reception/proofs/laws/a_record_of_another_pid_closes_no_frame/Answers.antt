use Rattle.fec_reception.proofs.Fronts.{frames_stay, nothing_told}
use Rattle.fec_reception.proofs.laws.a_record_of_another_pid_closes_no_frame.Goals as goal

pub returns : goal.returns
returns c = record { received = frames_stay; delivered = nothing_told }
