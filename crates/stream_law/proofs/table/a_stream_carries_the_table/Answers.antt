use Rattle.std.proofs.Common.{ℕ, List, sym, subst}
use Rattle.std.specs.Prelude.{flat_map}
use Rattle.ts_spec.specs.Packet.{PacketFields}
use Rattle.ts_spec.specs.Packetized.{Packetizes}
use Rattle.section_spec.specs.Section.{section_form}
use Rattle.plan_spec.specs.Changes.{versions}
use Rattle.plan_spec.specs.Offered.{offered_in}
use Rattle.stream_spec.specs.Stream.{part_of}
use Rattle.stream_law.specs.Words.{sections_of_int}
use Rattle.stream_law.proofs.TableCycles.{versions_carry}
use Rattle.stream_law.proofs.Wholes.{version_accepted}
use Rattle.stream_law.proofs.table.a_stream_carries_the_table.Goals as goal

pub returns : goal.returns
returns c = record {
  carries = λ plan int whole of_bytes table_is gives are limits records stream.
      subst (λ (ps : List PacketFields). (begin : ℕ → ℕ) × Packetizes section_form (flat_map (sections_of_int plan stream.slots int) (versions plan)) ps begin)
      (sym (c.a_table_goes_out_in_each_cycle.ensures.sent plan int (offered_in plan gives) records whole table_is stream
      (c.records_have_moments.ensures.moments plan whole of_bytes gives are limits records stream)))
      (versions_carry plan whole (offered_in plan gives) stream.slots stream.each int table_is c.sections_are_lawful.ensures.lawful
      (λ version cycle within. c.a_cycle_carries_the_table.ensures.carried (part_of plan (offered_in plan gives) stream.slots version) int
      (version_accepted plan whole version within) (of_bytes version within) cycle));
}
