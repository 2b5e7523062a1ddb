-- What one frame more leaves as it was.
use Rattle.std.proofs.Common.{◌≡◌, ℕ, ◌+◌, ◌*◌, ◌≤◌, Bool, false, not, cond, List, [], ◌∷◌, ◌++◌, drop, length, map, Option, None, Some, refl, ap, sym, ◌∙◌, subst, arith}
use Rattle.std.specs.List.{flat_map, count_by}
use Rattle.std.proofs.lemmas.List.{append-nil, drop_at}
use Rattle.std.proofs.lemmas.Grind.{flat_map-append}
use Rattle.plan_spec.specs.Plan.{ServiceFields, isi_of}
use Rattle.gse_spec.specs.Reassembly.{PlacedPacket, latest_first, pdu_of, PlacedPdu, pdus_after}
use Rattle.gse_spec.specs.Frame.{frame_fields}
use Rattle.gse_spec.specs.Packet.{is_gse_packet, readings_of, packets_of}
use Rattle.gse_spec.specs.Received.{is_frame_of, placed, received_gse_packets, received_pdus, carried_by_pdu, delivered_by_pdu, delivered_by_gse}
use Rattle.gse_spec.specs.Events.{GseEvent, gse_events, events_after}
use Rattle.gse_spec.specs.Numbers.{received_frame_count, refused_packets, isi_numbers, pdu_numbers}
use Rattle.gse_law.specs.Streams.{packets_of_frame, OneFrameMore}
use Rattle.gse_law.proofs.Steps.{one_frame}
use Rattle.gse_reassembly.specs.Slots.{Stands}
use Rattle.bb_reception_spec.specs.Delivered.{delivered_on, delivered_by_service, added_by}
use Rattle.bb_reception_spec.specs.Numbers.{numbers_on, pdus_on}
use Rattle.gse_reception.specs.Steps.{numbers_with}
use Rattle.gse_reception.specs.Reception.{GseReceptionState, HasTaken}

abbrev given_by : List (List ℕ) → PlacedPdu → List (List ℕ)
given_by filter x = delivered_by_pdu carried_by_pdu filter x.pdu

front_stays : {X : Type 0} (xs ys all : List X) → all ≡ xs ++ ys → all ≡ xs ++ drop (length xs) all
front_stays xs ys all is = is ∙ ap (λ t. xs ++ t) (sym (ap (drop (length xs)) is ∙ drop_at xs ys (length xs) refl))

stays_on : (o : Option ℕ) (filter frames : List (List ℕ)) (b : List ℕ)
    → delivered_on o filter (frames ++ b ∷ []) ≡ delivered_on o filter frames ++ drop (length (delivered_on o filter frames)) (delivered_on o filter (frames ++ b ∷ []))
stays_on None filter frames b = refl
stays_on (Some isi) filter frames b =
    let later : List PlacedPdu = pdus_after (latest_first [] (received_gse_packets isi frames)) (packets_of_frame isi (length frames) (received_frame_count isi frames) b) in
    front_stays (delivered_by_gse carried_by_pdu filter isi frames) (flat_map (given_by filter) later) (delivered_by_gse carried_by_pdu filter isi (frames ++ b ∷ []))
    (ap (flat_map (given_by filter)) (one_frame isi frames b).pdus ∙ flat_map-append (given_by filter) (received_pdus isi frames) later)

pub delivered_stays : (it : ServiceFields) (frames : List (List ℕ)) (b : List ℕ) → delivered_by_service it (frames ++ b ∷ []) ≡ delivered_by_service it frames ++ added_by it frames b
delivered_stays it frames b = stays_on (isi_of it.kind) it.filter frames b

-- A frame of another ISI.
module _ (isi : ℕ) (frames : List (List ℕ)) (b : List ℕ) (other : is_frame_of isi b ≡ false) where
  one : OneFrameMore isi frames b
  one = one_frame isi frames b

  none_placed : packets_of_frame isi (length frames) (received_frame_count isi frames) b ≡ []
  none_placed = ap (λ (of : Bool). cond of (placed (length frames) (received_frame_count isi frames + 1) 0 (packets_of (frame_fields b).field)) []) other

  same_packets : received_gse_packets isi (frames ++ b ∷ []) ≡ received_gse_packets isi frames
  same_packets = one.packets ∙ ap (λ (t : List PlacedPacket). received_gse_packets isi frames ++ t) none_placed ∙ append-nil (received_gse_packets isi frames)

  same_events : gse_events isi (frames ++ b ∷ []) ≡ gse_events isi frames
  same_events = ap (events_after []) same_packets

  same_received : received_pdus isi (frames ++ b ∷ []) ≡ received_pdus isi frames
  same_received = ap (pdus_after []) same_packets

  none_more : (n : ℕ) → n + 0 ≡ n
  none_more n = omega arith

  same_count : received_frame_count isi (frames ++ b ∷ []) ≡ received_frame_count isi frames
  same_count = one.counted ∙ ap (λ (of : Bool). received_frame_count isi frames + cond of 1 0) other ∙ none_more (received_frame_count isi frames)

  same_refused : refused_packets isi (frames ++ b ∷ []) ≡ refused_packets isi frames
  same_refused =
      one.refused
      ∙ ap (λ (of : Bool). refused_packets isi frames + cond of (count_by (λ r. not (is_gse_packet r)) (readings_of (frame_fields b).field)) 0) other
      ∙ none_more (refused_packets isi frames)

  nothing_on : (o : Option ℕ) (filter : List (List ℕ)) → o ≡ Some isi → delivered_on o filter (frames ++ b ∷ []) ≡ delivered_on o filter frames
  nothing_on o filter is =
      ap (λ (p : Option ℕ). delivered_on p filter (frames ++ b ∷ [])) is
      ∙ ap (flat_map (given_by filter)) same_received
      ∙ sym (ap (λ (p : Option ℕ). delivered_on p filter frames) is)

  pub nothing_added : (it : ServiceFields) → isi_of it.kind ≡ Some isi → added_by it frames b ≡ []
  nothing_added it is =
      ap (drop (length (delivered_by_service it frames))) (nothing_on (isi_of it.kind) it.filter is ∙ sym (append-nil (delivered_by_service it frames)))
      ∙ drop_at (delivered_by_service it frames) [] (length (delivered_by_service it frames)) refl

  pub taken_stays : (it : ServiceFields) (state : GseReceptionState) → isi_of it.kind ≡ Some isi → HasTaken it state frames → HasTaken it state (frames ++ b ∷ [])
  taken_stays it state is taken = record {
    isi = isi;
    isi_is = is;
    stands = subst (λ (t : List PlacedPacket). Stands state.slots (latest_first [] t)) (sym same_packets)
        (subst (λ (n : ℕ). Stands state.slots (latest_first [] (received_gse_packets n frames))) same taken.stands);
    frame_number_is = taken.frame_number_is ∙ ap (λ (n : ℕ). received_frame_count n frames) same ∙ sym same_count;
    of_isi_are = taken.of_isi_are
        ∙ ap (λ (o : Option ℕ). numbers_on o frames) is
        ∙ sym same_numbers
        ∙ sym (ap (λ (o : Option ℕ). numbers_on o (frames ++ b ∷ [])) is);
    of_pdus_are = taken.of_pdus_are
        ∙ ap (λ (o : Option ℕ). pdu_numbers carried_by_pdu it.filter (pdus_on o frames)) is
        ∙ ap (λ (t : List PlacedPdu). pdu_numbers carried_by_pdu it.filter (map pdu_of t)) (sym same_received)
        ∙ sym (ap (λ (o : Option ℕ). pdu_numbers carried_by_pdu it.filter (pdus_on o (frames ++ b ∷ []))) is);
    few = few;
  }
    where
      same : taken.isi ≡ isi
      same = cc (taken.isi_is, is)

      same_numbers : isi_numbers isi (frames ++ b ∷ []) ≡ isi_numbers isi frames
      same_numbers =
          ap (λ (h : ℕ). numbers_with h (gse_events isi (frames ++ b ∷ [])) (refused_packets isi (frames ++ b ∷ []))) same_count
          ∙ ap (λ (t : List GseEvent). numbers_with (received_frame_count isi frames) t (refused_packets isi (frames ++ b ∷ []))) same_events
          ∙ ap (λ (n : ℕ). numbers_with (received_frame_count isi frames) (gse_events isi frames) n) same_refused

      few : length (gse_events isi (frames ++ b ∷ [])) + refused_packets isi (frames ++ b ∷ []) ≤ 8191 * received_frame_count isi (frames ++ b ∷ [])
      few =
          omega (
            arith,
            subst (λ (n : ℕ). length (gse_events n frames) + refused_packets n frames ≤ 8191 * received_frame_count n frames) same taken.few,
            ap (λ (t : List GseEvent). length t) same_events,
            same_refused,
            same_count,
          )
