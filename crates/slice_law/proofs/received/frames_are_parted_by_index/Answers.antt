use Rattle.slice_law.proofs.Parted.{parted_by_index}
use Rattle.slice_law.proofs.received.frames_are_parted_by_index.Goals as goal

pub returns : goal.returns
returns c = record { parted = parted_by_index }
