use Rattle.channel_law.proofs.Sndu.{sndu_lawful}
use Rattle.channel_law.proofs.arrives.sndus_are_a_lawful_kind_of_unit.Goals as goal

pub returns : goal.returns
returns c = record { lawful = sndu_lawful }
