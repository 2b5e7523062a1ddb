-- One frame more of an input stream, by the readings of its data field.
use Rattle.std.proofs.Common.{◌≡◌, ℕ, zero, suc, ◌+◌, ◌*◌, ◌^◌, ◌<◌, ◌≤◌, Bool, true, false, not, cond, ◌&&◌, List, [], ◌∷◌, ◌++◌, drop, length, map, Option, None, Some, refl, ap, ap₂, sym, ◌∙◌, subst, arith, length-append, append_assoc}
use Rattle.std.specs.List.{flat_map, count_by}
use Rattle.std.proofs.lemmas.List.{append-nil, map-append, drop_at, length-map}
use Rattle.std.proofs.lemmas.List.Sums.{sum_by-cons, count_by-le-length}
use Rattle.std.proofs.lemmas.Grind.{flat_map-append}
use Rattle.wire_spec.specs.Causes.{raised}
use Rattle.addr_rules.specs.declared.filter.Label.{Label}
use Rattle.plan_spec.specs.Plan.{ServiceFields, isi_of}
use Rattle.gse_spec.specs.Frame.{FrameFields, frame_fields}
use Rattle.gse_spec.specs.Packet.{Reading, packet, cut, reuse_first, short, gse_length, is_over, reading_at_front, label_after_packet, readings_after, readings_within, readings_of, packets_in, packets_of, is_gse_packet}
use Rattle.gse_spec.specs.Reassembly.{PlacedPacket, latest_first, Pdu, pdu_of, PlacedPdu, pdu_ended_by, pdus_after}
use Rattle.gse_spec.specs.Received.{is_frame_of, placed, received_gse_packets, received_pdus, carried_by_pdu, delivered_by_pdu}
use Rattle.gse_spec.specs.Events.{GseEvent, is_pdu_event, event_by, events_after, gse_events}
use Rattle.gse_spec.specs.Numbers.{IsiNumbers, PduNumbers, received_frame_count, refusals_in, refused_packets, isi_numbers, pdus_of, pdu_numbers}
use Rattle.gse_law.specs.Streams.{packets_of_frame, OneFrameMore}
use Rattle.gse_law.proofs.Steps.{one_frame}
use Rattle.gse_law.proofs.Reassembled.{eq_true}
use Rattle.gse_law.proofs.PduEvents.{events_counted}
use Rattle.gse_law.proofs.AllPdus.{given_by_pdus}
use Rattle.bb_frame.specs.declared.frame.Frame.{Frame}
use Rattle.gse_reassembly.specs.Slots.{SlotsState, open_on, Stands}
use Rattle.bb_reception_spec.specs.Delivered.{delivered_on, delivered_by_service, added_by}
use Rattle.bb_reception_spec.specs.Numbers.{numbers_on, pdus_on}
use Rattle.gse_reception.specs.Counting.{counted_frame}
use Rattle.gse_reception.specs.Steps.{ReceivedSoFar, with_packet, with_refusal, with_readings, numbers_with, StandsSoFar, IsGoingOn}
use Rattle.gse_reception.specs.Reception.{GseReceptionState, HasTaken, IsReceiving, IsRead}
use Rattle.gse_reception.proofs.Packets.{few_events}
use Rattle.gse_reception.proofs.UnderWay.{delivered}

-- What readings add, part by part.

abbrev refuses : Reading → ℕ
refuses r = cond (not (is_gse_packet r)) 1 0

abbrev placed_of : ReceivedSoFar → List Reading → List PlacedPacket
placed_of so_far readings = placed so_far.place so_far.frame_number so_far.index (flat_map packets_in readings)

number_of : (so_far : ReceivedSoFar) (readings : List Reading) → (with_readings so_far readings).frame_number ≡ so_far.frame_number
number_of so_far [] = refl
number_of so_far (packet p ∷ readings) = number_of (with_packet so_far p) readings
number_of so_far (cut ∷ readings) = number_of (with_refusal so_far) readings
number_of so_far (reuse_first ∷ readings) = number_of (with_refusal so_far) readings
number_of so_far (short ∷ readings) = number_of (with_refusal so_far) readings

before_of : (so_far : ReceivedSoFar) (readings : List Reading) → (with_readings so_far readings).before ≡ latest_first so_far.before (placed_of so_far readings)
before_of so_far [] = refl
before_of so_far (packet p ∷ readings) = before_of (with_packet so_far p) readings
before_of so_far (cut ∷ readings) = before_of (with_refusal so_far) readings
before_of so_far (reuse_first ∷ readings) = before_of (with_refusal so_far) readings
before_of so_far (short ∷ readings) = before_of (with_refusal so_far) readings

events_of : (so_far : ReceivedSoFar) (readings : List Reading) → (with_readings so_far readings).events ≡ so_far.events ++ events_after so_far.before (placed_of so_far readings)
events_of so_far [] = sym (append-nil so_far.events)
events_of so_far (packet p ∷ readings) =
    events_of (with_packet so_far p) readings
    ∙ append_assoc so_far.events (event_by so_far.before so_far.frame_number p) (events_after (with_packet so_far p).before (placed_of (with_packet so_far p) readings))
events_of so_far (cut ∷ readings) = events_of (with_refusal so_far) readings
events_of so_far (reuse_first ∷ readings) = events_of (with_refusal so_far) readings
events_of so_far (short ∷ readings) = events_of (with_refusal so_far) readings

refused_of : (so_far : ReceivedSoFar) (readings : List Reading) → (with_readings so_far readings).refused ≡ so_far.refused + count_by (λ r. not (is_gse_packet r)) readings
refused_of so_far [] = omega arith
refused_of so_far (packet p ∷ readings) = omega (arith, refused_of (with_packet so_far p) readings, sum_by-cons refuses (packet p) readings)
refused_of so_far (cut ∷ readings) = omega (arith, refused_of (with_refusal so_far) readings, sum_by-cons refuses cut readings)
refused_of so_far (reuse_first ∷ readings) = omega (arith, refused_of (with_refusal so_far) readings, sum_by-cons refuses reuse_first readings)
refused_of so_far (short ∷ readings) = omega (arith, refused_of (with_refusal so_far) readings, sum_by-cons refuses short readings)

pdus_with : (so_far : ReceivedSoFar) (readings : List Reading)
    → (with_readings so_far readings).pdus ≡ so_far.pdus ++ map pdu_of (pdus_after so_far.before (placed_of so_far readings))
pdus_with so_far [] = sym (append-nil so_far.pdus)
pdus_with so_far (packet p ∷ readings) =
    let ended : List PlacedPdu = pdu_ended_by so_far.before so_far.place so_far.frame_number so_far.index p in
    let later : List PlacedPdu = pdus_after (with_packet so_far p).before (placed_of (with_packet so_far p) readings) in
    pdus_with (with_packet so_far p) readings
    ∙ append_assoc so_far.pdus (map pdu_of ended) (map pdu_of later)
    ∙ ap (λ (t : List Pdu). so_far.pdus ++ t) (sym (map-append pdu_of ended later))
pdus_with so_far (cut ∷ readings) = pdus_with (with_refusal so_far) readings
pdus_with so_far (reuse_first ∷ readings) = pdus_with (with_refusal so_far) readings
pdus_with so_far (short ∷ readings) = pdus_with (with_refusal so_far) readings

-- each reading gives an event or a refusal at most
few_with : (so_far : ReceivedSoFar) (readings : List Reading)
    → length (with_readings so_far readings).events + (with_readings so_far readings).refused ≤ length so_far.events + so_far.refused + length readings
few_with so_far [] = omega arith
few_with so_far (packet p ∷ readings) =
    omega (
      arith,
      few_with (with_packet so_far p) readings,
      few_events so_far.before so_far.frame_number p,
      length-append so_far.events (event_by so_far.before so_far.frame_number p),
    )
few_with so_far (cut ∷ readings) = omega (arith, few_with (with_refusal so_far) readings)
few_with so_far (reuse_first ∷ readings) = omega (arith, few_with (with_refusal so_far) readings)
few_with so_far (short ∷ readings) = omega (arith, few_with (with_refusal so_far) readings)

-- there are not more readings than bytes
few_after : (most : ℕ) (before : Option Label) (r : Reading) (rest : Option Label → List Reading) → ((label : Option Label) → length (rest label) ≤ most)
    → length (readings_after before r rest) ≤ suc most
few_after most before (packet p) rest few = omega (arith, few (label_after_packet before p))
few_after most before cut rest few = omega arith
few_after most before reuse_first rest few = omega (arith, few before)
few_after most before short rest few = omega arith

few_within : (most : ℕ) (b : List ℕ) (before : Option Label) → length (readings_within most b before) ≤ most
few_within zero b before = omega arith
few_within (suc most) b before =
    by_over (is_over b) (few_after most before (reading_at_front before b) (readings_within most (drop (2 + gse_length b) b)) (λ label. few_within most (drop (2 + gse_length b) b) label))
  where
    by_over : (over : Bool) → length (readings_after before (reading_at_front before b) (readings_within most (drop (2 + gse_length b) b))) ≤ suc most
        → length (cond over [] (readings_after before (reading_at_front before b) (readings_within most (drop (2 + gse_length b) b)))) ≤ suc most
    by_over true few = omega arith
    by_over false few = few

few_readings : (field : List ℕ) → length (readings_of field) ≤ length field
unfolding readings_of
few_readings field = few_within (length field) field None

-- packets after others, with the latest first
latest_both : (before ps qs : List PlacedPacket) → latest_first before (ps ++ qs) ≡ latest_first (latest_first before ps) qs
latest_both before [] qs = refl
latest_both before (p ∷ ps) qs = latest_both (p ∷ before) ps qs

-- not more PDUs than events
few_pdus : (isi : ℕ) (frames : List (List ℕ)) → length (pdus_of isi frames) ≤ length (gse_events isi frames)
few_pdus isi frames =
    omega (
      arith,
      length-map (received_pdus isi frames) pdu_of,
      events_counted [] (received_gse_packets isi frames),
      count_by-le-length is_pdu_event (gse_events isi frames),
    )

-- before a frame, all of the frames before it was received
abbrev pub begun : ℕ → List (List ℕ) → ReceivedSoFar
begun isi frames = record {
  place = length frames;
  frame_number = received_frame_count isi frames + 1;
  index = 0;
  before = latest_first [] (received_gse_packets isi frames);
  events = gse_events isi frames;
  refused = refused_packets isi frames;
  pdus = pdus_of isi frames;
}

same_isi : (a b : ℕ) (o : Option ℕ) → o ≡ Some a → o ≡ Some b → a ≡ b
same_isi a b o is_a is_b = cc

-- A reception of some frames, and a frame that is counted.
module _ (it : ServiceFields) (isi : ℕ) (filter : List (List ℕ)) (state : GseReceptionState) (frames : List (List ℕ))
    (receiving : IsReceiving filter isi it state frames) where
  same : receiving.received.isi ≡ isi
  same = same_isi receiving.received.isi isi (isi_of it.kind) receiving.received.isi_is receiving.of_isi

  stands_now : Stands state.slots (latest_first [] (received_gse_packets isi frames))
  stands_now = subst (λ (n : ℕ). Stands state.slots (latest_first [] (received_gse_packets n frames))) same receiving.received.stands

  number_now : state.slots.frame_number ≡ received_frame_count isi frames
  number_now = subst (λ (n : ℕ). state.slots.frame_number ≡ received_frame_count n frames) same receiving.received.frame_number_is

  isi_now : state.of_isi ≡ isi_numbers isi frames
  isi_now = receiving.received.of_isi_are ∙ ap (λ (o : Option ℕ). numbers_on o frames) receiving.of_isi

  pdus_now : state.of_pdus ≡ pdu_numbers carried_by_pdu filter (pdus_of isi frames)
  pdus_now = receiving.received.of_pdus_are ∙ ap₂ (λ (f : List (List ℕ)) (o : Option ℕ). pdu_numbers carried_by_pdu f (pdus_on o frames)) receiving.filter_is receiving.of_isi

  few_now : length (gse_events isi frames) + refused_packets isi frames ≤ 8191 * received_frame_count isi frames
  few_now = subst (λ (n : ℕ). length (gse_events n frames) + refused_packets n frames ≤ 8191 * received_frame_count n frames) same receiving.received.few

  count_few : received_frame_count isi frames < 2 ^ 32
  count_few = omega (arith, count_by-le-length (is_frame_of isi) frames, receiving.few)

  pub heard_few : state.of_isi.heard < 2 ^ 32
  heard_few = subst (λ (n : ℕ). n < 2 ^ 32) (sym (ap (λ (n : IsiNumbers). n.heard) isi_now)) count_few

  -- the frame is counted
  pub begins : (field : List ℕ) (slots : SlotsState) (on_isi : IsiNumbers) (on_pdus : PduNumbers) → length field ≤ 8191
      → slots.frame_number ≡ state.slots.frame_number + 1 → ((other : ℕ) → open_on slots other ≡ open_on state.slots other)
      → on_isi ≡ counted_frame state.of_isi → on_pdus ≡ state.of_pdus
      → IsGoingOn filter (begun isi frames) (readings_of field) slots on_isi on_pdus
  begins field slots on_isi on_pdus fits number unchanged counted kept = record {
    stand = record {
      stands = λ id. unchanged id ∙ stands_now id;
      frame_number_is = number ∙ ap (λ (n : ℕ). n + 1) number_now;
      of_isi_are = counted ∙ ap counted_frame isi_now ∙ ap (λ (h : ℕ). numbers_with h (gse_events isi frames) (refused_packets isi frames)) one_more;
      of_pdus_are = kept ∙ pdus_now;
      few_pdus = few_pdus isi frames;
    };
    few = omega (arith, few_now, few_readings field, fits, count_few);
  }
    where
      one_more : raised (received_frame_count isi frames) 1 ≡ received_frame_count isi frames + 1
      one_more = omega (arith, count_few)

  -- its readings were taken
  module _ (frame : Frame) (b : List ℕ) (read : IsRead frame b) (isi_is : frame.isi ≡ isi) where
    abbrev readings : List Reading
    readings = readings_of frame.field.now

    abbrev reached : ReceivedSoFar
    reached = with_readings (begun isi frames) readings

    abbrev pub more : List Pdu
    more = map pdu_of (pdus_after (latest_first [] (received_gse_packets isi frames)) (placed_of (begun isi frames) readings))

    one : OneFrameMore isi frames b
    one = one_frame isi frames b

    field_is : (frame_fields b).field ≡ frame.field.now
    field_is = ap (λ (f : FrameFields). f.field) read.fields_are

    of_isi : is_frame_of isi b ≡ true
    of_isi = ap₂ (λ (x y : Bool). x && y) read.readable (eq_true (frame_fields b).isi isi (ap (λ (f : FrameFields). f.isi) read.fields_are ∙ isi_is))

    placed_is : packets_of_frame isi (length frames) (received_frame_count isi frames) b ≡ placed_of (begun isi frames) readings
    placed_is =
        ap (λ (of : Bool). cond of (placed (length frames) (received_frame_count isi frames + 1) 0 (packets_of (frame_fields b).field)) []) of_isi
        ∙ ap (λ (field : List ℕ). placed (length frames) (received_frame_count isi frames + 1) 0 (packets_of field)) field_is

    number_is : (with_readings (begun isi frames) readings).frame_number ≡ received_frame_count isi (frames ++ b ∷ [])
    number_is =
        number_of (begun isi frames) readings
        ∙ sym (one.counted ∙ ap (λ (of : Bool). received_frame_count isi frames + cond of 1 0) of_isi)

    before_is : reached.before ≡ latest_first [] (received_gse_packets isi (frames ++ b ∷ []))
    before_is =
        before_of (begun isi frames) readings
        ∙ ap (latest_first (latest_first [] (received_gse_packets isi frames))) (sym placed_is)
        ∙ sym (latest_both [] (received_gse_packets isi frames) (packets_of_frame isi (length frames) (received_frame_count isi frames) b))
        ∙ ap (latest_first []) (sym one.packets)

    events_is : reached.events ≡ gse_events isi (frames ++ b ∷ [])
    events_is =
        events_of (begun isi frames) readings
        ∙ ap (λ (t : List PlacedPacket). gse_events isi frames ++ events_after (latest_first [] (received_gse_packets isi frames)) t) (sym placed_is)
        ∙ sym one.events

    refused_is : reached.refused ≡ refused_packets isi (frames ++ b ∷ [])
    refused_is =
        refused_of (begun isi frames) readings
        ∙ ap (λ (n : ℕ). refused_packets isi frames + n) (sym refusals)
        ∙ sym one.refused
      where
        refusals : refusals_in isi b ≡ count_by (λ r. not (is_gse_packet r)) readings
        refusals =
            ap (λ (of : Bool). cond of (count_by (λ r. not (is_gse_packet r)) (readings_of (frame_fields b).field)) 0) of_isi
            ∙ ap (λ (field : List ℕ). count_by (λ r. not (is_gse_packet r)) (readings_of field)) field_is

    pub added_pdus : reached.pdus ≡ pdus_of isi frames ++ more
    added_pdus = pdus_with (begun isi frames) readings

    all_pdus : pdus_of isi (frames ++ b ∷ []) ≡ pdus_of isi frames ++ more
    all_pdus =
        ap (map pdu_of) one.pdus
        ∙ map-append pdu_of (received_pdus isi frames) (pdus_after (latest_first [] (received_gse_packets isi frames)) (packets_of_frame isi (length frames) (received_frame_count isi frames) b))
        ∙ ap (λ (t : List PlacedPacket). pdus_of isi frames ++ map pdu_of (pdus_after (latest_first [] (received_gse_packets isi frames)) t)) placed_is

    pub frame_taken : (slots : SlotsState) (on_isi : IsiNumbers) (on_pdus : PduNumbers) → length frame.field.now ≤ 8191
        → StandsSoFar filter reached slots on_isi on_pdus
        → HasTaken it (record { slots = slots; of_isi = on_isi; of_pdus = on_pdus }) (frames ++ b ∷ [])
    frame_taken slots on_isi on_pdus fits stand = record {
      isi = isi;
      isi_is = receiving.of_isi;
      stands = subst (Stands slots) before_is stand.stands;
      frame_number_is = stand.frame_number_is ∙ number_is;
      of_isi_are = stand.of_isi_are
          ∙ ap (λ (h : ℕ). numbers_with h reached.events reached.refused) number_is
          ∙ ap (λ (t : List GseEvent). numbers_with (received_frame_count isi (frames ++ b ∷ [])) t reached.refused) events_is
          ∙ ap (λ (n : ℕ). numbers_with (received_frame_count isi (frames ++ b ∷ [])) (gse_events isi (frames ++ b ∷ [])) n) refused_is
          ∙ sym (ap (λ (o : Option ℕ). numbers_on o (frames ++ b ∷ [])) receiving.of_isi);
      of_pdus_are = stand.of_pdus_are
          ∙ ap (pdu_numbers carried_by_pdu filter) (added_pdus ∙ sym all_pdus)
          ∙ sym (ap₂ (λ (f : List (List ℕ)) (o : Option ℕ). pdu_numbers carried_by_pdu f (pdus_on o (frames ++ b ∷ []))) receiving.filter_is receiving.of_isi);
      few = omega (
        arith,
        few_now,
        few_with (begun isi frames) readings,
        few_readings frame.field.now,
        fits,
        ap (λ (t : List GseEvent). length t) events_is,
        refused_is,
        one.counted ∙ ap (λ (of : Bool). received_frame_count isi frames + cond of 1 0) of_isi,
      );
    }

    -- what the frame adds
    pub added_is : added_by it frames b ≡ delivered filter more
    added_is =
        ap₂ (λ (was all : List (List ℕ)). drop (length was) all) (whole frames) (whole (frames ++ b ∷ []) ∙ ap (delivered filter) all_pdus ∙ flat_map-append (delivered_by_pdu carried_by_pdu filter) (pdus_of isi frames) more)
        ∙ drop_at (delivered filter (pdus_of isi frames)) (delivered filter more) (length (delivered filter (pdus_of isi frames))) refl
      where
        whole : (all : List (List ℕ)) → delivered_by_service it all ≡ delivered filter (pdus_of isi all)
        whole all =
            ap₂ (λ (f : List (List ℕ)) (o : Option ℕ). delivered_on o f all) receiving.filter_is receiving.of_isi
            ∙ given_by_pdus carried_by_pdu filter isi all
