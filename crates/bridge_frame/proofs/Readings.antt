-- The packets of a data field, one after another: what is open after them, and the Ethernet frames that were handed out.
use Rattle.std.proofs.Common.{◌≡◌, ℕ, ◌+◌, List, [], ◌∷◌, ◌++◌, length, map, refl, ap, sym, ◌∙◌, subst, append_assoc, Option, Result}
use Rattle.std.specs.List.{flat_map}
use Rattle.std.proofs.lemmas.List.{append-nil}
use Rattle.std.proofs.lemmas.List.Folds.{flat_map-map}
use Rattle.std.proofs.lemmas.Grind.{flat_map-append}
use Rattle.gse_spec.specs.Packet.{GsePacket, complete_packet, start_packet, middle_packet, end_packet, Reading, packet, cut, reuse_first, short, packets_in}
use Rattle.gse_spec.specs.Reassembly.{PlacedPacket, Fragments, opened, opened_places, Outcome, reassembled, no_start, late, wrong_total, wrong_crc, outcome_after, pdu_of, PlacedPdu, pdu_of_outcome, pdu_ended_by, latest_first, pdus_after}
use Rattle.gse_spec.specs.Received.{placed}
use Rattle.gse_spec.specs.Slots.{still_open, open_after}
use Rattle.gse_law.proofs.Steps.{open_more, outcome_still, pdus_more}
use Rattle.gse_reassembly.specs.Slots.{SlotsState, open_on, Stands, Takes}
use Rattle.outlet_spec.specs.Going.{Going}
use Rattle.gse_reception.specs.Outlets.{HandsOut}
use Rattle.gse_reception.specs.Steps.{pdus_of_outcome, pdus_in}
use Rattle.gse_reception.proofs.Outlets.{hands_nothing, hands_both}
use Rattle.bridge_spec.specs.Frames.{frame_of_pdu}
use Rattle.bridge_frame.specs.Pdus.{frames_of_pdus}
use Rattle.bridge_frame.proofs.Placed.{placed_one, placed_more, latest_both}

-- What is open tells what a packet ends.
module _ (slots : SlotsState) (before : List PlacedPacket) (stands : Stands slots before) where
  outcome_is : (id frame_number : ℕ) (pdu : List ℕ) (crc : ℕ) → outcome_after (open_on slots id) frame_number pdu crc ≡ outcome_after (opened id before) frame_number pdu crc
  outcome_is id frame_number pdu crc =
      ap (λ (o : Option Fragments). outcome_after o frame_number pdu crc) (stands id) ∙ sym (outcome_still (opened id before) frame_number pdu crc)

  of_outcome : (place index : ℕ) (places : List ℕ) (o : Outcome) → pdus_of_outcome o ≡ map pdu_of (pdu_of_outcome place index places o)
  of_outcome place index places (reassembled f) = refl
  of_outcome place index places no_start = refl
  of_outcome place index places late = refl
  of_outcome place index places wrong_total = refl
  of_outcome place index places wrong_crc = refl

  pdus_are : (place index : ℕ) (p : GsePacket) → pdus_in slots p ≡ map pdu_of (pdu_ended_by before place slots.frame_number index p)
  pdus_are place index (complete_packet protocol label pdu) = refl
  pdus_are place index (start_packet id total protocol label written pdu) = refl
  pdus_are place index (middle_packet id pdu) = refl
  pdus_are place index (end_packet id pdu crc) =
      ap pdus_of_outcome (outcome_is id slots.frame_number pdu crc)
      ∙ of_outcome place index (place ∷ opened_places id before) (outcome_after (opened id before) slots.frame_number pdu crc)

  -- so the frames that it gives
  pub frames_ended : (place index : ℕ) (p : GsePacket) → flat_map frame_of_pdu (pdus_in slots p) ≡ frames_of_pdus (pdu_ended_by before place slots.frame_number index p)
  frames_ended place index p =
      ap (flat_map frame_of_pdu) (pdus_are place index p) ∙ flat_map-map frame_of_pdu pdu_of (pdu_ended_by before place slots.frame_number index p)

-- one packet more
pub stands_more : (old new : SlotsState) (before : List PlacedPacket) (place h i : ℕ) (p : GsePacket) → Stands old before → old.frame_number ≡ h → Takes old p new
    → Stands new (placed_one place h i p ∷ before)
stands_more old new before place h i p stands same takes id =
    takes id
    ∙ ap (open_after id old.frame_number p) (stands id)
    ∙ ap (λ (n : ℕ). open_after id n p (still_open id before)) same
    ∙ sym (open_more id h p (opened id before))

module _ {T A E : Type 0} (StandsFor : T → List (ℕ × List ℕ) → Type 0) (Refused : T → ℕ → List ℕ → Type 0) (services faults : T → ℕ) where
  abbrev Hands : List (List ℕ) → Going T A E → Going T A E → Type 0
  Hands frames old new = HandsOut StandsFor Refused services faults 0 frames old new

  -- of all packets some were taken, after any that were taken before, and these readings are left
  pub record IsUnderWay (all : List GsePacket) (start : SlotsState) (left : List Reading) (slots : SlotsState) (begin now : Going T A E) : Type 0 where
    pub done : List GsePacket
    pub all_are : all ≡ done ++ flat_map packets_in left
    pub frame_number_is : slots.frame_number ≡ start.frame_number
    pub stands : (place : ℕ) (before : List PlacedPacket) → Stands start before → Stands slots (latest_first before (placed place start.frame_number 0 done))
    pub hands : (place : ℕ) (before : List PlacedPacket) → Stands start before
        → HandsOut StandsFor Refused services faults 0 (frames_of_pdus (pdus_after before (placed place start.frame_number 0 done))) begin now

  pub begin_all : (readings : List Reading) (slots : SlotsState) (outlet : T) (went : Result A E)
      → IsUnderWay (flat_map packets_in readings) slots readings slots (record { outlet = outlet; went = went }) (record { outlet = outlet; went = went })
  begin_all readings slots outlet went = record {
    done = [];
    all_are = refl;
    frame_number_is = refl;
    stands = λ place before stands. stands;
    hands = λ place before stands. hands_nothing StandsFor Refused services faults 0 outlet went;
  }

  module _ (all : List GsePacket) (start : SlotsState) (begin : Going T A E) where
    pub packet_more : (p : GsePacket) (left : List Reading) (slots now : SlotsState) (mid new : Going T A E)
        → IsUnderWay all start (packet p ∷ left) slots begin mid → Takes slots p now → now.frame_number ≡ slots.frame_number
        → HandsOut StandsFor Refused services faults 0 (flat_map frame_of_pdu (pdus_in slots p)) mid new
        → IsUnderWay all start left now begin new
    packet_more p left slots now mid new way takes same handed = record {
      done = way.done ++ p ∷ [];
      all_are = way.all_are ∙ sym (append_assoc way.done (p ∷ []) (flat_map packets_in left));
      frame_number_is = same ∙ way.frame_number_is;
      stands = λ place before stands.
          subst (Stands now) (sym (packets_are place before))
          (stands_more slots now (so_far place before) place start.frame_number (0 + length way.done) p (way.stands place before stands) way.frame_number_is takes);
      hands = λ place before stands.
          subst (λ (t : List (List ℕ)). Hands t begin new) (sym (frames_are place before))
          (hands_both StandsFor Refused services faults 0 (frames_before place before) (frames_of_pdus (ended place before)) begin mid new (way.hands place before stands)
          (subst (λ (t : List (List ℕ)). Hands t mid new)
          (frames_ended slots (so_far place before) (way.stands place before stands) place (0 + length way.done) p
          ∙ ap (λ (h : ℕ). frames_of_pdus (pdu_ended_by (so_far place before) place h (0 + length way.done) p)) way.frame_number_is) handed));
    }
      where
        these : ℕ → List PlacedPacket
        these place = placed place start.frame_number 0 way.done

        so_far : ℕ → List PlacedPacket → List PlacedPacket
        so_far place before = latest_first before (placed place start.frame_number 0 way.done)

        ended : ℕ → List PlacedPacket → List PlacedPdu
        ended place before = pdu_ended_by (latest_first before (placed place start.frame_number 0 way.done)) place start.frame_number (0 + length way.done) p

        frames_before : ℕ → List PlacedPacket → List (List ℕ)
        frames_before place before = frames_of_pdus (pdus_after before (placed place start.frame_number 0 way.done))

        packets_are : (place : ℕ) (before : List PlacedPacket) → latest_first before (placed place start.frame_number 0 (way.done ++ p ∷ []))
            ≡ placed_one place start.frame_number (0 + length way.done) p ∷ latest_first before (placed place start.frame_number 0 way.done)
        packets_are place before =
            ap (latest_first before) (placed_more place start.frame_number 0 way.done p)
            ∙ latest_both before (placed place start.frame_number 0 way.done) (placed_one place start.frame_number (0 + length way.done) p ∷ [])

        frames_are : (place : ℕ) (before : List PlacedPacket) → frames_of_pdus (pdus_after before (placed place start.frame_number 0 (way.done ++ p ∷ [])))
            ≡ frames_of_pdus (pdus_after before (placed place start.frame_number 0 way.done))
            ++ frames_of_pdus (pdu_ended_by (latest_first before (placed place start.frame_number 0 way.done)) place start.frame_number (0 + length way.done) p)
        frames_are place before =
            let one : PlacedPacket = placed_one place start.frame_number (0 + length way.done) p in
            let mid : List PlacedPacket = latest_first before (placed place start.frame_number 0 way.done) in
            let last : List PlacedPdu = pdu_ended_by mid place start.frame_number (0 + length way.done) p in
            ap (λ (t : List PlacedPacket). frames_of_pdus (pdus_after before t)) (placed_more place start.frame_number 0 way.done p)
            ∙ ap frames_of_pdus (pdus_more before (placed place start.frame_number 0 way.done) (one ∷ []))
            ∙ flat_map-append (λ (x : PlacedPdu). frame_of_pdu x.pdu) (pdus_after before (placed place start.frame_number 0 way.done)) (last ++ [])
            ∙ ap (λ (t : List PlacedPdu). frames_of_pdus (pdus_after before (placed place start.frame_number 0 way.done)) ++ frames_of_pdus t) (append-nil last)

    -- one refusal more
    pub refusal_more : (r : Reading) (left : List Reading) (slots : SlotsState) (mid : Going T A E) → ((p : GsePacket) → r ≡ packet p → ⊥)
        → IsUnderWay all start (r ∷ left) slots begin mid → IsUnderWay all start left slots begin mid
    refusal_more (packet p) left slots mid no_packet way = absurd (no_packet p refl)
    refusal_more cut left slots mid no_packet way = record { done = way.done; all_are = way.all_are; frame_number_is = way.frame_number_is; stands = way.stands; hands = way.hands }
    refusal_more reuse_first left slots mid no_packet way = record { done = way.done; all_are = way.all_are; frame_number_is = way.frame_number_is; stands = way.stands; hands = way.hands }
    refusal_more short left slots mid no_packet way = record { done = way.done; all_are = way.all_are; frame_number_is = way.frame_number_is; stands = way.stands; hands = way.hands }

    -- none is left
    all_done : (slots : SlotsState) (now : Going T A E) (way : IsUnderWay all start [] slots begin now) → way.done ≡ all
    all_done slots now way = sym (way.all_are ∙ append-nil way.done)

    pub all_stand : (slots : SlotsState) (now : Going T A E) → IsUnderWay all start [] slots begin now
        → (place : ℕ) (before : List PlacedPacket) → Stands start before → Stands slots (latest_first before (placed place start.frame_number 0 all))
    all_stand slots now way place before stands =
        subst (λ (t : List GsePacket). Stands slots (latest_first before (placed place start.frame_number 0 t))) (all_done slots now way) (way.stands place before stands)

    pub all_handed : (slots : SlotsState) (now : Going T A E) → IsUnderWay all start [] slots begin now
        → (place : ℕ) (before : List PlacedPacket) → Stands start before
        → HandsOut StandsFor Refused services faults 0 (frames_of_pdus (pdus_after before (placed place start.frame_number 0 all))) begin now
    all_handed slots now way place before stands =
        subst (λ (t : List GsePacket). Hands (frames_of_pdus (pdus_after before (placed place start.frame_number 0 t))) begin now) (all_done slots now way) (way.hands place before stands)
