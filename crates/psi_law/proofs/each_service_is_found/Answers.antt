use Rattle.std.proofs.Common.{◌≡◌, true, Some}
use Rattle.ts_spec.specs.Recording.{plain, records_of}
use Rattle.int_spec.specs.Table.{table_bytes}
use Rattle.plan_spec.specs.Plan.{PlanFields, IntFields}
use Rattle.plan_spec.specs.Bytes.{IsOfBytes}
use Rattle.plan_spec.specs.Signalling.{table_of}
use Rattle.plan_spec.specs.Wholes.{is_whole_plan}
use Rattle.psi_spec.specs.Named.{int_on, ReadsAs}
use Rattle.psi_spec.specs.Tables.{table_packets_of}
use Rattle.psi_law.proofs.EachFound.{service_found, int_carried, named_is}
use Rattle.psi_law.proofs.HasPid.{has_pid}
use Rattle.psi_law.proofs.each_service_is_found.Goals as goal

pub returns : goal.returns
returns c =
    let carried : (plan : PlanFields) (int : IntFields) → is_whole_plan plan ≡ true → plan.table ≡ Some int → IsOfBytes plan
    → ReadsAs (int_on int.pid (records_of plain (table_packets_of plan))) (Some (table_of plan int)) = λ plan int whole has of_bytes.
    let accepted = c.each_version_is_a_plan.ensures.written plan whole in
    let reads = c.the_table_reads_back_to_the_rules.ensures.read plan int accepted of_bytes has in
    int_carried c.written_packets_are_read.ensures.readable c.written_packets_are_read.ensures.fields c.null_packet_is_read.ensures.fields
    plan int whole accepted has of_bytes ((c.a_table_is_told_by_its_bytes.ensures.is (table_bytes (table_of plan int))).1 (table_of plan int, reads)) reads in
    record {
      pid = λ plan int service earlier later whole. has_pid plan int service earlier later (c.each_version_is_a_plan.ensures.written plan whole);
      found = λ plan int service pid earlier later whole has.
          service_found c.written_packets_are_read.ensures.readable c.written_packets_are_read.ensures.fields c.null_packet_is_read.ensures.fields
          plan int whole (c.each_version_is_a_plan.ensures.written plan whole) has service pid earlier later;
      table = carried;
      named = λ plan int rules whole has of_bytes.
          named_is c.a_section_carries_one_table.ensures.one (records_of plain (table_packets_of plan)) int.pid (table_of plan int) rules (carried plan int whole has of_bytes);
    }
