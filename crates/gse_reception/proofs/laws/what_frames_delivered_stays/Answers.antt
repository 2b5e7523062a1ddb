use Rattle.gse_reception.proofs.OtherFrames.{delivered_stays}
use Rattle.gse_reception.proofs.laws.what_frames_delivered_stays.Goals as goal

pub returns : goal.returns
returns c = record { stays = delivered_stays }
