use Rattle.std.proofs.Common.{◌∙◌, ap}
use Rattle.ts_spec.specs.Recording.{records_of}
use Rattle.channel_spec.specs.Carried.{packets_sent}
use Rattle.stream_law.proofs.Parts.{service_sent}
use Rattle.stream_law.proofs.stream.the_packets_of_a_service_are_on_its_pid.Goals as goal

pub returns : goal.returns
returns c = record {
  sent = λ plan datagrams records whole stream timed k pid own fits.
      ap (λ r. packets_sent pid (records_of plan.recording r)) stream.records_are
      ∙ service_sent plan datagrams stream.slots c.written_packets_are_read.ensures.readable c.written_packets_are_read.ensures.fields c.null_packet_is_read.ensures.fields
      whole stream.each timed k pid own fits;
}
