use Rattle.channel_law.proofs.Stamps.{stamp_of-m2ts}
use Rattle.channel_law.proofs.channels.m2ts_records_have_their_stamps.Goals as goal

pub returns : goal.returns
returns c = record { stamps = stamp_of-m2ts }
