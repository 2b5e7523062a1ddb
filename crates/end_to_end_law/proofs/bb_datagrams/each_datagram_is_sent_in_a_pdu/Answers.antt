use Rattle.std.proofs.Common.{ℕ, List, refl, ap, ◌∙◌}
use Rattle.std.specs.Prelude.{map}
use Rattle.std.proofs.lemmas.Option.{slice_get-get_or}
use Rattle.plan_spec.specs.Changes.{no_service, plan_in, records_of_version}
use Rattle.stream_law.specs.Captures.{given_by}
use Rattle.gse_spec.specs.Numbers.{pdus_of}
use Rattle.gse_spec.specs.Sending.{pdu_for}
use Rattle.gse_law.specs.Streams.{frames_of}
use Rattle.bb_reception_spec.specs.Delivered.{service_at}
use Rattle.bb_stream_law.proofs.Carrying.{offered_short}
use Rattle.bb_stream_law.proofs.PlanChecks.{has_size}
use Rattle.bb_stream_law.proofs.Services.{AreShort}
use Rattle.end_to_end_law.specs.BbSent.{offered_to}
use Rattle.end_to_end_law.proofs.BbServices.{unicast_six, all_datagrams}
use Rattle.end_to_end_law.proofs.BbPdus.{twice}
use Rattle.end_to_end_law.proofs.BbOrders.{ended_in_order}
use Rattle.end_to_end_law.proofs.bb_datagrams.each_datagram_is_sent_in_a_pdu.Goals as goal

pub returns : goal.returns
returns c = record {
  carries = λ plan capture told frames sent.
      c.a_baseband_stream_carries_what_was_offered.ensures.carries plan sent.accepted sent.of_bytes (given_by capture told)
      (all_datagrams plan capture told frames sent (c.a_capture_gives_datagrams.ensures.are capture told sent.fault sent.told_bytes sent.tells))
      frames sent.stream;
  pdus = λ plan capture told frames sent k isi address known kind.
      let unicast : List ℕ = (service_at plan k).unicast in
      let size_fits = has_size plan sent.stream.size sent.accepted sent.stream.size_is in
      let short : AreShort (offered_to plan capture told k) = offered_short (plan_in plan 0) (records_of_version plan 0 (given_by capture told)) k in
      c.an_input_stream_is_counted_by_itself.ensures.pdus isi frames (frames_of isi frames) (twice isi frames)
      ∙ ap (pdus_of isi)
      (c.the_frames_of_an_isi_are_those_of_its_service.ensures.own plan sent.accepted sent.of_bytes (given_by capture told) frames sent.stream k isi address (service_at plan k)
      (slice_get-get_or plan.services k no_service known) kind)
      ∙ c.packed_frames_give_the_pdus.ensures.given (service_at plan k).urgent isi sent.stream.size (map (pdu_for address unicast) (offered_to plan capture told k)) size_fits.0 size_fits.1
      (c.offered_datagrams_can_be_sent.ensures.sendable address unicast (offered_to plan capture told k) (λ e. unicast_six plan sent.of_bytes k known) short)
      ∙ ended_in_order sent.stream.size address unicast size_fits.0 (unicast_six plan sent.of_bytes k known) (service_at plan k) isi kind refl (offered_to plan capture told k) short;
}
