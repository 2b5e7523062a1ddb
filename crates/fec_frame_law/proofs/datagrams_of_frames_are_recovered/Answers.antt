use Rattle.std.proofs.Common.{ap, ◌∙◌}
use Rattle.fec_frame_spec.specs.Delivered.{datagrams_of_frames}
use Rattle.fec_frame_law.proofs.Between.{received_sent}
use Rattle.fec_frame_law.proofs.Datagrams.{recovered}
use Rattle.fec_frame_law.proofs.datagrams_of_frames_are_recovered.Goals as goal

pub returns : goal.returns
returns c = record {
  recovered = λ timing rows first sent frames kept are_sent are_kept timed often.
      let parts = recovered rows sent frames kept are_sent are_kept in
      (parts.0, parts.1, ap (datagrams_of_frames rows) (received_sent timing first kept frames are_kept timed rows sent are_sent often) ∙ parts.2);
}
