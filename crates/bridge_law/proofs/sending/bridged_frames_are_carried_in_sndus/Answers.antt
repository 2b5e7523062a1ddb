use Rattle.std.proofs.Common.{true, false, List, map, sym, subst}
use Rattle.ts_spec.specs.Packet.{PacketFields}
use Rattle.ts_spec.specs.Packetized.{Packetizes}
use Rattle.ts_spec.specs.Recording.{Record, plain, records_of}
use Rattle.ts_spec.specs.Sndu.{sndu_form}
use Rattle.plan_spec.specs.Plan.{ule}
use Rattle.bridge_spec.specs.Frames.{on_pid}
use Rattle.bridge_spec.specs.Sending.{sndu_with_frame, bridged_pieces}
use Rattle.bridge_law.proofs.Sndus.{sndus_carry, each_unit, packets_are_sent, on_pid_carried, frames_come_back}
use Rattle.bridge_law.proofs.sending.bridged_frames_are_carried_in_sndus.Goals as goal

pub returns : goal.returns
returns c = record {
  each = sndus_carry c.a_written_sndu_reads_back.ensures.read;
  carried = λ pid frames small rooms.
      let packetizes = c.packetized_units_are_carried.ensures sndu_form true pid 0 (map sndu_with_frame frames) c.sndus_are_lawful.ensures.lawful
      (each_unit c.a_written_sndu_reads_back.ensures.sndu c.sndus_are_units.ensures.units pid frames rooms) in
      on_pid_carried pid frames packetizes.0 c.sndus_are_lawful.ensures.lawful packetizes.1
      (packets_are_sent c.written_packets_are_read.ensures.readable c.written_packets_are_read.ensures.fields pid small frames)
      (sndus_carry c.a_written_sndu_reads_back.ensures.read pid frames rooms);
  back = λ pid frames small rooms.
      let packetizes = c.packetized_units_are_carried.ensures sndu_form true pid 0 (map sndu_with_frame frames) c.sndus_are_lawful.ensures.lawful
      (each_unit c.a_written_sndu_reads_back.ensures.sndu c.sndus_are_units.ensures.units pid frames rooms) in
      let sent : List Record = records_of plain (bridged_pieces (on_pid pid) frames) in
      let packets = packets_are_sent c.written_packets_are_read.ensures.readable c.written_packets_are_read.ensures.fields pid small frames in
      frames_come_back pid frames
      (c.a_recorded_stream_gives_its_units.ensures.units sent (ule pid false true) pid (map sndu_with_frame frames) packetizes.0
      (subst (λ (ps : List PacketFields). Packetizes sndu_form (map sndu_with_frame frames) ps packetizes.0) (sym packets) packetizes.1))
      (sndus_carry c.a_written_sndu_reads_back.ensures.read pid frames rooms);
}
