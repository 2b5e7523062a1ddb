use Rattle.ts_spec.specs.Recording.{plain, records_of}
use Rattle.psi_spec.specs.Tables.{table_packets_of}
use Rattle.psi_law.proofs.Printed.{prints_service}
use Rattle.psi_law.proofs.each_service_is_printed.Goals as goal

pub returns : goal.returns
returns c = record {
  printed = λ plan int service pid earlier later text whole has of_bytes parts some is none printed.
      prints_service (records_of plain (table_packets_of plan)) int.transport_stream_id plan.packet_rate int.pid text service pid plan.services earlier later parts
      (c.each_service_is_found.ensures.found plan int service pid earlier later whole has parts some is none) printed
      (c.each_service_is_found.ensures.named plan int printed.rules whole has of_bytes printed.named);
}
