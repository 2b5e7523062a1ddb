use Rattle.std.proofs.Common.{ℕ, List, ap, sym, subst, ◌∙◌}
use Rattle.plan_spec.specs.Offered.{offered_in_all}
use Rattle.stream_law.specs.Captures.{given_by}
use Rattle.bb_stream_spec.specs.Stream.{order_of}
use Rattle.carrier_spec.specs.Stream.{piece_size}
use Rattle.bb_reception_spec.specs.Delivered.{service_at, delivered_of}
use Rattle.end_to_end_law.specs.BbDelivered.{DeliversNumbered}
use Rattle.end_to_end_law.proofs.bb_bytes.what_arrives_of_the_bytes_of_frames.Goals as goal

pub returns : goal.returns
returns c = record {
  arrives = λ plan capture told frames sent bytes delivered delivers k isi is recording.
      let same = c.cuts_are_unique.ensures.pieces (piece_size plan) bytes delivers.pieces recording.pieces delivers.tail recording.tail delivers.cut recording.cut in
      subst (λ (t : List (List ℕ)). DeliversNumbered recording.is_recorded.channel isi (service_at plan k) (order_of plan sent.stream.size k (offered_in_all plan (given_by capture told) k)) t)
      (ap (delivered_of plan k) (sym same) ∙ sym (delivers.each k is.service))
      (c.what_arrives_of_a_capture_in_frames.ensures.arrives plan capture told frames sent k isi is recording.pieces recording.is_recorded);
}
