use Rattle.loss_law.proofs.Fewer.{fewer, channel_for, fewer_same, own_same}
use Rattle.loss_law.proofs.spans.a_channel_is_one_for_fewer_pids.Goals as goal

pub returns : goal.returns
returns c = record {
  fewer = λ pids some sent recorded channel read. (fewer pids some sent recorded channel read, fewer_same pids some sent recorded channel read);
  own = λ plan sent recorded channel k known. (channel_for plan sent recorded channel k known, own_same plan sent recorded channel k known);
}
