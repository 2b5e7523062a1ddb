use Rattle.std.proofs.Common.{ℕ, List, ap, ◌∙◌}
use Rattle.std.specs.Prelude.{filter}
use Rattle.plan_spec.specs.Plan.{ServiceFields}
use Rattle.std.proofs.lemmas.Option.{slice_get-get_or}
use Rattle.plan_spec.specs.Changes.{no_service}
use Rattle.stream_law.specs.Captures.{given_by}
use Rattle.bb_stream_spec.specs.Stream.{order_of}
use Rattle.gse_spec.specs.Received.{carried_by_pdu}
use Rattle.bb_reception_spec.specs.Delivered.{service_at}
use Rattle.bb_loss_law.proofs.Services.{carries_for}
use Rattle.end_to_end_law.specs.BbSent.{offered_to, wants_in_frames}
use Rattle.end_to_end_law.proofs.BbServices.{isi_there, is_of_gse, are_datagrams}
use Rattle.end_to_end_law.proofs.BbOrders.{order_datagrams}
use Rattle.end_to_end_law.proofs.BbWanted.{wanted_are}
use Rattle.end_to_end_law.proofs.bb_frames.all_of_a_capture_arrives_where_all_arrived_intact.Goals as goal

pub returns : goal.returns
returns c = record {
  wanted = λ plan capture told frames sent k known recorded is_recorded intact.
      let service : ServiceFields = service_at plan k in
      let has = isi_there plan k sent.stream.defined known in
      let isi : ℕ = has.0 in
      let kind = is_of_gse service.kind isi has.1 in
      let order : List (List ℕ) → List (List ℕ) = order_of plan sent.stream.size k in
      let offered : List (List ℕ) = order (offered_to plan capture told k) in
      let delivers = c.where_all_arrived_intact_all_is_delivered.ensures.all plan k frames recorded is_recorded offered
      (carries_for plan frames (λ n. order_of plan sent.stream.size n (offered_to plan capture told n)) (c.each_datagram_is_sent_in_a_pdu.ensures.carries plan capture told frames sent) k) intact in
      delivers.wanted isi (record { service = known; own = has.1 })
      ∙ wanted_are service isi kind.0 kind.1 (c.offered_datagrams_are_carried.ensures.carried kind.0 service.unicast) frames offered
      (order_datagrams service.urgent (offered_to plan capture told k) offered
      (c.a_baseband_stream_carries_what_was_offered.ensures.classes plan sent.accepted sent.of_bytes (given_by capture told) frames sent.stream k service
      (slice_get-get_or plan.services k no_service known))
      (are_datagrams plan capture told frames sent (c.a_capture_gives_datagrams.ensures.are capture told sent.fault sent.told_bytes sent.tells) k))
      (c.each_datagram_is_sent_in_a_pdu.ensures.pdus plan capture told frames sent k isi kind.0 known kind.1)
      (c.the_pdus_say_what_is_delivered.ensures.delivered carried_by_pdu service.filter isi frames)
      ∙ ap (λ (ds : List (List ℕ)). filter (wants_in_frames service) (order ds)) (c.each_capture_is_sent_in_frames.ensures.all plan capture told frames sent k);
}
