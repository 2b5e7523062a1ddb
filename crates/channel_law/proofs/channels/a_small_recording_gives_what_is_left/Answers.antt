use Rattle.channel_law.proofs.SmallLoss.{small_loss}
use Rattle.channel_law.proofs.channels.a_small_recording_gives_what_is_left.Goals as goal

pub returns : goal.returns
returns c = record { small = small_loss }
