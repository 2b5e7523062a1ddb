-- One packet more of an input stream, one refusal more.
use Rattle.std.proofs.Common.{◌≡◌, ℕ, ◌+◌, ◌^◌, ◌<◌, ◌≤◌, Bool, true, false, cond, List, [], ◌∷◌, length, map, refl, ap, sym, ◌∙◌, arith, length-append, Option, None, Some}
use Rattle.gse_spec.specs.Packet.{GsePacket, complete_packet, start_packet, middle_packet, end_packet}
use Rattle.gse_spec.specs.Reassembly.{PlacedPacket, Fragments, with_bytes, fits, opened, opened_places, Outcome, reassembled, no_start, late, wrong_total, wrong_crc, outcome_after, Pdu, pdu_of, pdu_of_outcome, pdu_ended_by}
use Rattle.gse_spec.specs.Received.{carried_by_pdu}
use Rattle.gse_spec.specs.Events.{GseEvent, bad_length_event, event_of_outcome, event_of_fragments, event_of_middle, event_by}
use Rattle.gse_spec.specs.Numbers.{IsiNumbers, PduNumbers, pdu_numbers}
use Rattle.gse_spec.specs.Slots.{still_open, open_after}
use Rattle.gse_law.proofs.Steps.{open_more, outcome_still}
use Rattle.gse_reassembly.specs.Slots.{SlotsState, open_on, Stands, Takes}
use Rattle.gse_reception.specs.Counting.{counted_event, counted_events, counted_pdus}
use Rattle.gse_reception.specs.Steps.{events_in, pdus_of_outcome, pdus_in, ReceivedSoFar, with_packet, with_refusal, numbers_with, StandsSoFar}
use Rattle.gse_reception.proofs.Counted.{events_counted, refusal_counted, pdus_counted}

-- What is open tells what a packet gives.
module _ (slots : SlotsState) (before : List PlacedPacket) (stands : Stands slots before) where
  outcome_is : (id frame_number : ℕ) (pdu : List ℕ) (crc : ℕ) → outcome_after (open_on slots id) frame_number pdu crc ≡ outcome_after (opened id before) frame_number pdu crc
  outcome_is id frame_number pdu crc =
      ap (λ (o : Option Fragments). outcome_after o frame_number pdu crc) (stands id) ∙ sym (outcome_still (opened id before) frame_number pdu crc)

  events_are : (p : GsePacket) → events_in slots p ≡ event_by before slots.frame_number p
  events_are (complete_packet protocol label pdu) = refl
  events_are (start_packet id total protocol label written pdu) = refl
  events_are (middle_packet id pdu) = ap (event_of_middle pdu) (stands id)
  events_are (end_packet id pdu crc) = ap (λ (o : Outcome). event_of_outcome o ∷ []) (outcome_is id slots.frame_number pdu crc)

  of_outcome : (place index : ℕ) (places : List ℕ) (o : Outcome) → pdus_of_outcome o ≡ map pdu_of (pdu_of_outcome place index places o)
  of_outcome place index places (reassembled f) = refl
  of_outcome place index places no_start = refl
  of_outcome place index places late = refl
  of_outcome place index places wrong_total = refl
  of_outcome place index places wrong_crc = refl

  pdus_are : (place index : ℕ) (p : GsePacket) → pdus_in slots p ≡ map pdu_of (pdu_ended_by before place slots.frame_number index p)
  pdus_are place index (complete_packet protocol label pdu) = refl
  pdus_are place index (start_packet id total protocol label written pdu) = refl
  pdus_are place index (middle_packet id pdu) = refl
  pdus_are place index (end_packet id pdu crc) =
      ap pdus_of_outcome (outcome_is id slots.frame_number pdu crc)
      ∙ of_outcome place index (place ∷ opened_places id before) (outcome_after (opened id before) slots.frame_number pdu crc)

-- A packet gives one event at most, and not more PDUs than events.
few_of_fragments : (f : Fragments) → length (event_of_fragments f) ≤ 1
few_of_fragments f = by_fit (fits f)
  where
    by_fit : (b : Bool) → length {A = GseEvent} (cond b [] (bad_length_event ∷ [])) ≤ 1
    by_fit true = omega arith
    by_fit false = omega arith

few_of_middle : (pdu : List ℕ) (o : Option Fragments) → length (event_of_middle pdu o) ≤ 1
few_of_middle pdu None = omega arith
few_of_middle pdu (Some f) = few_of_fragments (with_bytes pdu f)

pub few_events : (before : List PlacedPacket) (frame_number : ℕ) (p : GsePacket) → length (event_by before frame_number p) ≤ 1
few_events before frame_number (complete_packet protocol label pdu) = omega arith
few_events before frame_number (start_packet id total protocol label written pdu) =
    few_of_fragments (record { frame_number = frame_number; total = total; protocol = protocol; label = label; written = written; bytes = pdu })
few_events before frame_number (middle_packet id pdu) = few_of_middle pdu (still_open id before)
few_events before frame_number (end_packet id pdu crc) = omega arith

few_of_outcome : (o : Outcome) → length (pdus_of_outcome o) ≤ 1
few_of_outcome (reassembled f) = omega arith
few_of_outcome no_start = omega arith
few_of_outcome late = omega arith
few_of_outcome wrong_total = omega arith
few_of_outcome wrong_crc = omega arith

few_pdus_in : (slots : SlotsState) (p : GsePacket) → length (pdus_in slots p) ≤ length (events_in slots p)
few_pdus_in slots (complete_packet protocol label pdu) = omega arith
few_pdus_in slots (start_packet id total protocol label written pdu) = omega arith
few_pdus_in slots (middle_packet id pdu) = omega arith
few_pdus_in slots (end_packet id pdu crc) = few_of_outcome (outcome_after (open_on slots id) slots.frame_number pdu crc)

module _ (filter : List (List ℕ)) (so_far : ReceivedSoFar) (slots : SlotsState) (on_isi : IsiNumbers) (on_pdus : PduNumbers)
    (stand : StandsSoFar filter so_far slots on_isi on_pdus) (few : length so_far.events + so_far.refused + 1 < 2 ^ 64) where
  abbrev gives : GsePacket → List GseEvent
  gives p = event_by so_far.before so_far.frame_number p

  abbrev ends : GsePacket → List Pdu
  ends p = map pdu_of (pdu_ended_by so_far.before so_far.place so_far.frame_number so_far.index p)

  given_are : (p : GsePacket) → events_in slots p ≡ gives p
  given_are p = events_are slots so_far.before stand.stands p ∙ ap (λ (n : ℕ). event_by so_far.before n p) stand.frame_number_is

  pub ended_are : (p : GsePacket) → pdus_in slots p ≡ ends p
  ended_are p =
      pdus_are slots so_far.before stand.stands so_far.place so_far.index p
      ∙ ap (λ (n : ℕ). map pdu_of (pdu_ended_by so_far.before so_far.place n so_far.index p)) stand.frame_number_is

  few_ended : (p : GsePacket) → length (ends p) ≤ length (gives p)
  few_ended p =
      omega (arith, few_pdus_in slots p, ap (λ (t : List Pdu). length t) (ended_are p), ap (λ (t : List GseEvent). length t) (given_are p))

  pub packet_taken : (p : GsePacket) (now : SlotsState) (now_isi : IsiNumbers) (now_pdus : PduNumbers) → Takes slots p now → now.frame_number ≡ slots.frame_number
      → now_isi ≡ counted_events on_isi (events_in slots p) → now_pdus ≡ counted_pdus on_pdus (pdu_numbers carried_by_pdu filter (pdus_in slots p))
      → StandsSoFar filter (with_packet so_far p) now now_isi now_pdus
  packet_taken p now now_isi now_pdus takes same isi pdus = record {
    stands = λ id.
        takes id
        ∙ ap (open_after id slots.frame_number p) (stand.stands id)
        ∙ ap (λ (n : ℕ). open_after id n p (still_open id so_far.before)) stand.frame_number_is
        ∙ sym (open_more id so_far.frame_number p (opened id so_far.before));
    frame_number_is = same ∙ stand.frame_number_is;
    of_isi_are = isi
        ∙ ap (λ (n : IsiNumbers). counted_events n (events_in slots p)) stand.of_isi_are
        ∙ ap (counted_events (numbers_with so_far.frame_number so_far.events so_far.refused)) (given_are p)
        ∙ events_counted so_far.frame_number so_far.events so_far.refused (gives p) (omega (arith, few_events so_far.before so_far.frame_number p, few));
    of_pdus_are = pdus
        ∙ ap (λ (n : PduNumbers). counted_pdus n (pdu_numbers carried_by_pdu filter (pdus_in slots p))) stand.of_pdus_are
        ∙ ap (λ (t : List Pdu). counted_pdus (pdu_numbers carried_by_pdu filter so_far.pdus) (pdu_numbers carried_by_pdu filter t)) (ended_are p)
        ∙ pdus_counted filter so_far.pdus (ends p)
        (omega (arith, stand.few_pdus, few_ended p, few_events so_far.before so_far.frame_number p, few));
    few_pdus = omega (arith, length-append so_far.pdus (ends p), length-append so_far.events (gives p), stand.few_pdus, few_ended p);
  }

  pub refusal_taken : (now_isi : IsiNumbers) (now_pdus : PduNumbers) → now_isi ≡ counted_event on_isi bad_length_event → now_pdus ≡ on_pdus
      → StandsSoFar filter (with_refusal so_far) slots now_isi now_pdus
  refusal_taken now_isi now_pdus isi pdus = record {
    stands = stand.stands;
    frame_number_is = stand.frame_number_is;
    of_isi_are = isi
        ∙ ap (λ (n : IsiNumbers). counted_event n bad_length_event) stand.of_isi_are
        ∙ refusal_counted so_far.frame_number so_far.events so_far.refused few;
    of_pdus_are = pdus ∙ stand.of_pdus_are;
    few_pdus = stand.few_pdus;
  }
