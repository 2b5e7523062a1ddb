use Rattle.fec_reception.proofs.Fronts.{told_stays, told_at_end}
use Rattle.fec_reception.proofs.laws.what_frames_delivered_stays.Goals as goal

pub returns : goal.returns
returns c = record { stays = told_stays; ended = told_at_end }
