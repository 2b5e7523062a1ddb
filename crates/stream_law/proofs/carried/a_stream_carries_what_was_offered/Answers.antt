use Rattle.std.proofs.Common.{map, ap, ◌∙◌}
use Rattle.ts_spec.specs.Form.{IsLawful}
use Rattle.ts_spec.specs.Received.{Arrival, arrivals}
use Rattle.ts_spec.specs.Recording.{records_of}
use Rattle.ts_spec.specs.Sndu.{sndu_form}
use Rattle.section_spec.specs.Section.{section_form}
use Rattle.plan_spec.specs.Plan.{KindFields, ule, mpe, fec, gse}
use Rattle.plan_spec.specs.Offered.{offered_in}
use Rattle.stream_spec.specs.Services.{form_of_kind}
use Rattle.stream_law.proofs.Units.{units_packetized, units_carry}
use Rattle.stream_law.proofs.Versions.{taken_in_version}
use Rattle.stream_law.proofs.FrameLaws.{frames_units}
use Rattle.stream_law.proofs.NumberedFrames.{numbered_carry}
use Rattle.stream_law.proofs.Fitting.{offered_fit}
use Rattle.stream_law.proofs.SlicedFrames.{fec_units, all_read, all_sent}
use Rattle.stream_law.proofs.SlicedArrivals.{packets_arrive}
use Rattle.stream_law.proofs.ServicesCarried.{carries_one_each}
use Rattle.stream_law.proofs.carried.a_stream_carries_what_was_offered.Goals as goal

lawful : IsLawful sndu_form → IsLawful section_form → (kind : KindFields) → IsLawful (form_of_kind kind)
lawful sndus sections (ule pid address packing) = sndus
lawful sndus sections (mpe pid) = sections
lawful sndus sections (fec pid rows parity window) = sections
lawful sndus sections (gse isi address) = sections

pub returns : goal.returns
returns c = record {
  carries = λ plan whole of_bytes gives are limits records stream.
      let found = carries_one_each plan (offered_in plan gives) stream.slots (lawful c.sndus_are_lawful.ensures.lawful c.sections_are_lawful.ensures.lawful)
      (λ mac is. units_packetized c.packetized_units_are_carried.ensures c.sndus_are_lawful.ensures.lawful c.sndus_are_units.ensures.units
      c.a_written_sndu_reads_back.ensures.sndu c.a_written_sndu_reads_back.ensures.read
      c.sections_are_lawful.ensures.lawful c.a_written_datagram_section_reads_back.ensures.unit c.a_written_datagram_section_reads_back.ensures.read
      c.an_address_or_parameters_can_be_written.ensures.address mac is
      (λ rows columns first frames is_rows least most each. frames_units rows columns mac is is_rows least most frames each c.frames_carry_their_datagrams.ensures.units first))
      (λ mac is. units_carry c.packetized_units_are_carried.ensures c.sndus_are_lawful.ensures.lawful c.sndus_are_units.ensures.units
      c.a_written_sndu_reads_back.ensures.sndu c.a_written_sndu_reads_back.ensures.read
      c.sections_are_lawful.ensures.lawful c.a_written_datagram_section_reads_back.ensures.unit c.a_written_datagram_section_reads_back.ensures.read
      c.an_address_or_parameters_can_be_written.ensures.address mac is)
      (λ mac is rows columns first frames moments is_rows least most each.
      numbered_carry rows columns mac
      (all_read c.a_unit_reads_as_its_section.ensures.within rows columns is_rows least most mac is)
      (all_sent c.a_frame_of_datagrams_is_one.ensures.sent rows columns is_rows least most mac is) first frames moments each)
      whole of_bytes stream.defined (λ version k. taken_in_version plan version gives k are) stream.each (offered_fit plan whole gives are)
      (λ mac is rows columns is_rows least most. fec_units c.a_unit_reads_as_its_section.ensures.unit rows columns is_rows least most mac is)
      (λ mac is rows columns is_rows least most. all_read c.a_unit_reads_as_its_section.ensures.within rows columns is_rows least most mac is)
      (λ mac is rows columns is_rows least most. all_sent c.a_frame_of_datagrams_is_one.ensures.sent rows columns is_rows least most mac is)
      c.sections_are_lawful.ensures.lawful (records_of plan.recording records)
      (λ k pid own. c.the_packets_of_a_service_are_on_its_pid.ensures.sent plan (offered_in plan gives) records whole stream
      (c.records_have_moments.ensures.moments plan whole of_bytes gives are limits records stream) k pid own (offered_fit plan whole gives are k))
      (λ k pid own_pid rows columns window own is.
      ap (λ rs. map (λ (a : Arrival). a.moment) (arrivals pid (records_of plan.recording rs))) stream.records_are
      ∙ packets_arrive plan (offered_in plan gives) stream.slots c.written_packets_are_read.ensures.readable c.written_packets_are_read.ensures.fields c.null_packet_is_read.ensures.fields
      whole stream.each (c.records_have_moments.ensures.moments plan whole of_bytes gives are limits records stream) k pid own_pid rows columns window own is
      (offered_fit plan whole gives are k)) in
      (found.0, found.2);
}
