use Rattle.channel_law.proofs.Units.{intact_among_accepted}
use Rattle.channel_law.proofs.arrives.intact_units_are_among_the_accepted.Goals as goal

pub returns : goal.returns
returns c = record { among = intact_among_accepted }
