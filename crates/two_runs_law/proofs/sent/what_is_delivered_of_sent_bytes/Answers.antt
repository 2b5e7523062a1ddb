use Rattle.std.proofs.Common.{◌≡◌, ℕ, ◌<◌, List, [], length, ap, sym, ◌∙◌, subst, Option}
use Rattle.std.specs.Option.{unwrap_or}
use Rattle.wire_spec.specs.Lists.{joined, IsCut, IsSubsequence}
use Rattle.ts_spec.specs.Recording.{record_size, records_of}
use Rattle.carrier_spec.specs.Stream.{piece_size}
use Rattle.stream_law.specs.Captures.{given_by}
use Rattle.reception_spec.specs.Delivered.{delivered_of}
use Rattle.bb_reception_spec.specs.Delivered.{delivered_of as delivered_of_frames}
use Rattle.loss_law.specs.Loss.{carries_for}
use Rattle.bb_loss_law.specs.Plans.{wanted_of}
use Rattle.bb_loss_law.proofs.Services.{delivered_is}
use Rattle.end_to_end_law.specs.Sent.{sent_records, offered_on, offered_by}
use Rattle.end_to_end_law.specs.Bytes.{DeliversOfBytes}
use Rattle.end_to_end_law.specs.BbBytes.{DeliversOfFrames}
use Rattle.intact_law.specs.Intact.{DeliversIntactUnits, DeliversIntactPdus, own_of_all}
use Rattle.two_runs_law.specs.Sent.{wanted_of_capture, wanted_in_order}
use Rattle.two_runs_law.proofs.sent.what_is_delivered_of_sent_bytes.Goals as goal

pub returns : goal.returns
returns c = record {
  packets = λ plan capture told bytes is recording delivered delivers.
      let law = c.what_arrives_of_bytes.ensures.arrives plan capture told is.records is.sent in
      let carries = law.0 in
      -- what a service delivers, by any cut
      let delivered_are : (k : ℕ) → k < length plan.services → (pieces : List (List ℕ)) (tail : List ℕ) → IsCut (record_size plan.recording) recording pieces tail
      → delivered_of plan k (records_of plan.recording pieces) ≡ delivered k =
      λ k known pieces tail cut.
      ap (λ (t : List (List ℕ)). delivered_of plan k (records_of plan.recording t))
      (sym (c.cuts_are_unique.ensures.pieces (record_size plan.recording) recording delivers.pieces pieces delivers.tail tail delivers.cut cut))
      ∙ sym (delivers.each k known) in
      record {
        cut = subst (λ (b : List ℕ). IsCut (record_size plan.recording) b is.records []) (sym is.bytes_are)
            (c.a_stream_is_cut_into_its_records.ensures.cut plan (offered_by plan capture told) is.records (is.sent).stream);
        carries = carries;
        units = law.1;
        intact = λ k known pieces tail cut channel.
            subst
            (λ (t : List (List ℕ)). DeliversIntactUnits plan k (sent_records plan is.records) (carries.units k) (carries.begin k) (records_of plan.recording pieces) channel t)
            (delivered_are k known pieces tail cut)
            (c.datagrams_of_intact_units_are_delivered.ensures.delivers plan k known (sent_records plan is.records) (carries.units k) (carries.begin k) (carries.packetized k)
            (records_of plan.recording pieces) channel);
        none_missing = λ k known pieces tail cut channel all.
            let wanted : own_of_all plan k (carries.units k) ≡ wanted_of_capture plan capture told k =
            c.where_all_units_arrived_intact_none_is_missing.ensures.wanted plan k known (sent_records plan is.records) (offered_on plan capture told k) (carries_for carries k)
            ∙ sym (c.where_each_packet_is_heard_all_is_delivered.ensures.all plan k known (sent_records plan is.records) (offered_on plan capture told k) (carries_for carries k)
            (λ pid a own there. c.where_nothing_is_lost_each_packet_is_heard.ensures.heard plan capture told is.records is.sent k pid a own there))
            ∙ c.all_of_a_capture_arrives_where_nothing_is_lost.ensures.wanted plan capture told is.records is.sent k known in
            subst (λ (t : List (List ℕ)). IsSubsequence (wanted_of_capture plan capture told k) t) (delivered_are k known pieces tail cut)
            (subst (λ (t : List (List ℕ)). IsSubsequence t (delivered_of plan k (records_of plan.recording pieces))) wanted
            (c.where_all_units_arrived_intact_none_is_missing.ensures.all plan k known (sent_records plan is.records) (carries.units k) (carries.begin k) (carries.packetized k)
            (records_of plan.recording pieces) channel all));
        arrived = λ k known is_recording. law.2 recording delivered delivers k known is_recording;
        all = λ same k known.
            c.all_arrives_of_the_bytes_of_a_stream.ensures.wanted plan capture told is.records is.sent delivered
            (subst (λ (b : List ℕ). DeliversOfBytes plan b delivered) (same ∙ is.bytes_are) delivers) k known;
      };
  frames = λ plan capture told bytes is recording delivered delivers.
      let delivered_are : (k : ℕ) → k < length plan.services → (pieces : List (List ℕ)) (tail : List ℕ) → IsCut (piece_size plan) recording pieces tail
      → delivered_of_frames plan k pieces ≡ delivered k =
      λ k known pieces tail cut.
      ap (λ (t : List (List ℕ)). delivered_of_frames plan k t)
      (sym (c.cuts_are_unique.ensures.pieces (piece_size plan) recording delivers.pieces pieces delivers.tail tail delivers.cut cut))
      ∙ sym (delivers.each k known) in
      record {
        cut = subst (λ (b : List ℕ). IsCut (piece_size plan) b is.frames []) (sym is.bytes_are)
            (subst (λ (n : ℕ). IsCut n (joined is.frames) is.frames []) (sym (ap (λ (o : Option ℕ). unwrap_or o (record_size plan.recording)) ((is.sent).stream).size_is))
            (c.a_baseband_stream_is_cut_into_its_frames.ensures.cut plan (is.sent).accepted (is.sent).of_bytes (given_by capture told) is.frames (is.sent).stream));
        intact = λ k known pieces tail cut channel.
            subst (λ (t : List (List ℕ)). DeliversIntactPdus plan k is.frames pieces channel t) (delivered_are k known pieces tail cut)
            (c.datagrams_of_intact_pdus_are_delivered.ensures.delivers plan k is.frames pieces channel);
        none_missing = λ k isi own pieces tail cut channel all.
            let wanted : wanted_of plan k isi is.frames ≡ wanted_in_order plan (is.sent).stream.size capture told k =
            sym (delivered_is plan k isi is.frames own.own)
            ∙ c.all_of_a_capture_arrives_where_no_frame_is_lost.ensures.wanted plan capture told is.frames is.sent k own.service in
            subst (λ (t : List (List ℕ)). IsSubsequence (wanted_in_order plan (is.sent).stream.size capture told k) t) (delivered_are k own.service pieces tail cut)
            (subst (λ (t : List (List ℕ)). IsSubsequence t (delivered_of_frames plan k pieces)) wanted
            (c.where_all_pdus_arrived_intact_none_is_missing.ensures.all plan k isi own is.frames pieces channel all));
        arrived = λ k isi own is_recording. c.what_arrives_of_the_bytes_of_frames.ensures.arrives plan capture told is.frames is.sent recording delivered delivers k isi own is_recording;
        all = λ same k known.
            c.all_arrives_of_the_bytes_of_sent_frames.ensures.wanted plan capture told is.frames is.sent delivered
            (subst (λ (b : List ℕ). DeliversOfFrames plan b delivered) (same ∙ is.bytes_are) delivers) k known;
      };
}
