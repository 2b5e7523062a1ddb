use Rattle.std.proofs.Common.{flat_map}
use Rattle.std.proofs.lemmas.Option.{slice_get-get_or}
use Rattle.plan_spec.specs.Changes.{no_service}
use Rattle.plan_spec.specs.Offered.{offered_in_all}
use Rattle.stream_law.specs.Captures.{given_by}
use Rattle.gse_spec.specs.Classes.{is_of_class}
use Rattle.gse_spec.specs.Received.{carried_by_pdu, delivered_by_pdu}
use Rattle.gse_spec.specs.Carried.{sent_pdu}
use Rattle.gse_law.proofs.ClassOrder.{filter_within}
use Rattle.bb_stream_spec.specs.Stream.{order_of}
use Rattle.bb_reception_spec.specs.Delivered.{service_at, delivered_of}
use Rattle.end_to_end_law.specs.BbSent.{wants_in_frames}
use Rattle.end_to_end_law.proofs.BbOrders.{keeps_offered, class_arrives, one_class}
use Rattle.end_to_end_law.proofs.bb_classes.each_class_of_a_capture_arrives_in_order.Goals as goal

pub returns : goal.returns
returns c = record {
  arrives = λ plan capture told frames sent k isi is recorded is_recorded class.
      class_arrives (service_at plan k).urgent (wants_in_frames (service_at plan k)) (offered_in_all plan (given_by capture told) k)
      (order_of plan sent.stream.size k (offered_in_all plan (given_by capture told) k)) (delivered_of plan k recorded)
      (keeps_offered plan capture told frames sent
      (λ n known. c.a_baseband_stream_carries_what_was_offered.ensures.classes plan sent.accepted sent.of_bytes (given_by capture told) frames sent.stream n (service_at plan n)
      (slice_get-get_or plan.services n no_service known))
      k is.service)
      (c.what_arrives_of_a_capture_in_frames.ensures.arrives plan capture told frames sent k isi is recorded is_recorded).were_wanted class;
  intact = λ plan k sent recorded is_recorded isi is intact rising arrived class.
      filter_within (λ datagram. is_of_class (service_at plan k).urgent class datagram)
      (flat_map (λ n. delivered_by_pdu carried_by_pdu (service_at plan k).filter (sent_pdu isi sent n)) intact) (delivered_of plan k recorded)
      (c.intact_datagrams_of_gse_services_are_delivered.ensures.delivered plan k sent recorded is_recorded isi is intact rising arrived);
  keeps = λ plan capture told frames sent k known.
      (keeps_offered plan capture told frames sent
      (λ n there. c.a_baseband_stream_carries_what_was_offered.ensures.classes plan sent.accepted sent.of_bytes (given_by capture told) frames sent.stream n (service_at plan n)
      (slice_get-get_or plan.services n no_service there))
      k known).classes;
  one = one_class;
}
