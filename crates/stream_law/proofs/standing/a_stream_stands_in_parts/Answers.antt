use Rattle.std.proofs.Common.{sym, subst}
use Rattle.ts_spec.specs.Recording.{records_of}
use Rattle.plan_spec.specs.Changes.{plan_in}
use Rattle.plan_spec.specs.Offered.{offered_in}
use Rattle.stream_spec.specs.Standing.{StandInParts}
use Rattle.stream_spec.specs.Stream.{part_of}
use Rattle.stream_law.specs.Words.{records_before}
use Rattle.stream_law.proofs.Fitting.{offered_fit}
use Rattle.stream_law.proofs.InParts.{all_stand}
use Rattle.stream_law.proofs.Wholes.{version_accepted}
use Rattle.stream_law.proofs.standing.a_stream_stands_in_parts.Goals as goal

pub returns : goal.returns
returns c = record {
  stands = λ plan whole of_bytes gives are limits records stream.
      subst (λ rs. StandInParts plan (records_of plan.recording rs) (records_before stream.slots)) (sym stream.records_are)
      (all_stand plan whole (offered_in plan gives) stream.slots stream.each (c.records_have_moments.ensures.moments plan whole of_bytes gives are limits records stream) (offered_fit plan whole gives are)
      c.written_packets_are_read.ensures.readable c.written_packets_are_read.ensures.fields c.null_packet_is_read.ensures.fields
      c.sections_are_lawful.ensures.lawful
      (λ int version cycle is within. c.a_cycle_carries_the_table.ensures.carried (part_of plan (offered_in plan gives) stream.slots version) int
      (version_accepted plan whole version within) (of_bytes version within) cycle)
      (λ int version is within. c.the_table_reads_back_to_the_rules.ensures.read (plan_in plan version) int (version_accepted plan whole version within) (of_bytes version within) is)
      c.a_table_is_told_by_its_bytes.ensures.version);
}
