use Rattle.reception_law.proofs.Frames.{units_tell, plain_added, plain_closed}
use Rattle.reception_law.proofs.records.a_service_without_frames_tells_what_its_units_give.Goals as goal

pub returns : goal.returns
returns c = record { told = units_tell; added = plain_added; closed = plain_closed }
