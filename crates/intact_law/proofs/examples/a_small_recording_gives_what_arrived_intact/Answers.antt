use Rattle.intact_law.proofs.SmallErrors.{small_errors}
use Rattle.intact_law.proofs.examples.a_small_recording_gives_what_arrived_intact.Goals as goal

pub returns : goal.returns
returns c = record { small = small_errors }
