use Rattle.channel_law.proofs.Datagrams.{delivered_were_sent}
use Rattle.channel_law.proofs.arrives.delivered_datagrams_were_sent.Goals as goal

pub returns : goal.returns
returns c = record { sent = delivered_were_sent }
