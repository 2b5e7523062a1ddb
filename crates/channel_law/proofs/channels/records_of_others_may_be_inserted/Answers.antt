use Rattle.channel_law.proofs.Inserted.{inserted}
use Rattle.channel_law.proofs.channels.records_of_others_may_be_inserted.Goals as goal

pub returns : goal.returns
returns c = record { inserted = inserted }
