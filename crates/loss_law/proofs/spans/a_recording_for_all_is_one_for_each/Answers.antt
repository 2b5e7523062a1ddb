use Rattle.loss_law.proofs.Each.{recorded_for, channel_same}
use Rattle.loss_law.proofs.spans.a_recording_for_all_is_one_for_each.Goals as goal

pub returns : goal.returns
returns c = record {
  each = λ plan k known sent datagrams carries pieces channel detected often stamps.
      (recorded_for plan k known sent datagrams carries pieces channel detected often stamps, channel_same plan k known sent datagrams carries pieces channel detected often stamps);
}
