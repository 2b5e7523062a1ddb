use Rattle.std.proofs.Common.{◌∙◌, ap}
use Rattle.ts_spec.specs.Recording.{records_of}
use Rattle.channel_spec.specs.Carried.{packets_sent}
use Rattle.stream_law.proofs.Parts.{table_sent}
use Rattle.stream_law.proofs.table.a_table_goes_out_in_each_cycle.Goals as goal

pub returns : goal.returns
returns c = record {
  sent = λ plan int datagrams records whole table_is stream timed.
      ap (λ r. packets_sent int.pid (records_of plan.recording r)) stream.records_are
      ∙ table_sent plan datagrams stream.slots c.written_packets_are_read.ensures.readable c.written_packets_are_read.ensures.fields c.null_packet_is_read.ensures.fields
      whole stream.each timed int table_is;
}
