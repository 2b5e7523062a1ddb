use Rattle.channel_law.proofs.Units.{accepted_were_sent}
use Rattle.channel_law.proofs.arrives.accepted_units_were_sent.Goals as goal

pub returns : goal.returns
returns c = record { sent = accepted_were_sent }
