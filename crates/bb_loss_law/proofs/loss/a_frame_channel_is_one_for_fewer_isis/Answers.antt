use Rattle.bb_loss_law.proofs.Fewer.{fewer, fewer_same, recorded_for, recorded_same}
use Rattle.bb_loss_law.proofs.loss.a_frame_channel_is_one_for_fewer_isis.Goals as goal

pub returns : goal.returns
returns c = record {
  fewer = λ isis some sent recorded channel read. (fewer isis some sent recorded channel read, fewer_same isis some sent recorded channel read);
  each = λ plan k known sent recorded channel detected. (recorded_for plan k known sent recorded channel detected, recorded_same plan k known sent recorded channel detected);
}
