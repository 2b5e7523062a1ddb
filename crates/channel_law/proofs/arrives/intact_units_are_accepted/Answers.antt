use Rattle.channel_law.proofs.Intact.{intact_accepted}
use Rattle.channel_law.proofs.arrives.intact_units_are_accepted.Goals as goal

pub returns : goal.returns
returns c = record { accepted = intact_accepted }
