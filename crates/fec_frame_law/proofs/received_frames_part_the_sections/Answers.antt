use Rattle.fec_frame_law.proofs.Parting.{received_are}
use Rattle.fec_frame_law.proofs.OneParting.{one_parting}
use Rattle.fec_frame_law.proofs.received_frames_part_the_sections.Goals as goal

pub returns : goal.returns
returns c = record { parted = received_are; only = one_parting }
