use Rattle.channel_law.proofs.Datagrams.{intact_are_delivered}
use Rattle.channel_law.proofs.arrives.intact_datagrams_are_delivered.Goals as goal

pub returns : goal.returns
returns c = record { delivered = intact_are_delivered }
