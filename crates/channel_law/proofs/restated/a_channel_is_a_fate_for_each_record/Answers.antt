use Rattle.channel_law.proofs.Fates.{channel_of, channel_told, fates_of, fates_told}
use Rattle.channel_law.proofs.restated.a_channel_is_a_fate_for_each_record.Goals as goal

pub returns : goal.returns
returns c = record {
  channel = λ pids sent recorded has. (channel_of pids sent recorded has, channel_told pids sent recorded has);
  fates = λ pids sent recorded channel. (fates_of pids sent recorded channel, fates_told pids sent recorded channel);
}
