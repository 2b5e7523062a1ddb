-- One baseband frame more of a recording.
use Rattle.std.proofs.Common.{◌≡◌, ℕ, ◌+◌, Bool, true, false, not, cond, ◌&&◌, eqb, eqb-true, Option, Some, List, [], ◌∷◌, ◌++◌, drop, length, refl, ap, sym, ◌∙◌, subst, arith, eq-eqb}
use Rattle.std.specs.Option.{option_eq}
use Rattle.std.proofs.lemmas.Bool.{ne_eqb}
use Rattle.std.proofs.lemmas.List.{drop_at}
use Rattle.std.proofs.lemmas.Grind.{flat_map-append}
use Rattle.gse_spec.specs.Frame.{FrameFields, is_frame, frame_fields}
use Rattle.gse_spec.specs.Packet.{packets_of}
use Rattle.gse_spec.specs.Reassembly.{PlacedPacket, PlacedPdu, latest_first, pdus_after}
use Rattle.gse_spec.specs.Received.{is_frame_of, placed, received_gse_packets, received_pdus}
use Rattle.gse_spec.specs.Numbers.{received_frame_count}
use Rattle.gse_law.specs.Streams.{packets_of_frame, OneFrameMore}
use Rattle.gse_law.proofs.Steps.{one_frame}
use Rattle.gse_reassembly.specs.Slots.{SlotsState, Stands}
use Rattle.bridge_spec.specs.Frames.{frame_of_pdu, frames_on_isi}
use Rattle.bridge_frame.specs.Pdus.{frames_of_pdus}
use Rattle.bridge_frame.specs.Bridge.{BridgeState, of_pdus, HasTakenFrames, added_on_isi}
use Rattle.bridge_frame.proofs.Placed.{latest_both}

-- without a filter the frames received are those of all PDUs
pub frames_of_all : (isi : ℕ) (frames : List (List ℕ)) → frames_on_isi isi frames ≡ frames_of_pdus (received_pdus isi frames)
frames_of_all isi frames = refl

module _ (isi : ℕ) (frames : List (List ℕ)) (b : List ℕ) where
  one : OneFrameMore isi frames b
  one = one_frame isi frames b

  abbrev before : List PlacedPacket
  before = latest_first [] (received_gse_packets isi frames)

  abbrev more : List PlacedPacket
  more = packets_of_frame isi (length frames) (received_frame_count isi frames) b

  packets_after : latest_first [] (received_gse_packets isi (frames ++ b ∷ [])) ≡ latest_first before more
  packets_after = ap (latest_first []) one.packets ∙ latest_both [] (received_gse_packets isi frames) more

  added_of : added_on_isi isi frames b ≡ frames_of_pdus (pdus_after before more)
  added_of =
      ap (λ (t : List (List ℕ)). drop (length (frames_on_isi isi frames)) t)
      (ap frames_of_pdus one.pdus ∙ flat_map-append (λ (x : PlacedPdu). frame_of_pdu x.pdu) (received_pdus isi frames) (pdus_after before more))
      ∙ drop_at (frames_of_pdus (received_pdus isi frames)) (frames_of_pdus (pdus_after before more)) (length (frames_on_isi isi frames)) refl

  -- A frame of the ISI.
  module _ (field : List ℕ) (of_isi : is_frame_of isi b ≡ true) (field_is : (frame_fields b).field ≡ field) where
    more_is : more ≡ placed (length frames) (received_frame_count isi frames + 1) 0 (packets_of field)
    more_is =
        ap (λ (of : Bool). cond of (placed (length frames) (received_frame_count isi frames + 1) 0 (packets_of (frame_fields b).field)) []) of_isi
        ∙ ap (λ (t : List ℕ). placed (length frames) (received_frame_count isi frames + 1) 0 (packets_of t)) field_is

    pub stands_after : (slots : SlotsState) → Stands slots (latest_first before (placed (length frames) (received_frame_count isi frames + 1) 0 (packets_of field)))
        → Stands slots (latest_first [] (received_gse_packets isi (frames ++ b ∷ [])))
    stands_after slots stands = subst (Stands slots) (sym (packets_after ∙ ap (latest_first before) more_is)) stands

    pub counted_after : received_frame_count isi frames + 1 ≡ received_frame_count isi (frames ++ b ∷ [])
    counted_after = sym (one.counted ∙ ap (λ (of : Bool). received_frame_count isi frames + cond of 1 0) of_isi)

    pub added_here : added_on_isi isi frames b ≡ frames_of_pdus (pdus_after before (placed (length frames) (received_frame_count isi frames + 1) 0 (packets_of field)))
    added_here = added_of ∙ ap (λ (t : List PlacedPacket). frames_of_pdus (pdus_after before t)) more_is

  -- A frame of another one, or that is refused.
  module _ (off : is_frame_of isi b ≡ false) where
    no_more : more ≡ []
    no_more = ap (λ (of : Bool). cond of (placed (length frames) (received_frame_count isi frames + 1) 0 (packets_of (frame_fields b).field)) []) off

    pub others_stand : (slots : SlotsState) → Stands slots (latest_first [] (received_gse_packets isi frames)) → Stands slots (latest_first [] (received_gse_packets isi (frames ++ b ∷ [])))
    others_stand slots stands = subst (Stands slots) (sym (packets_after ∙ ap (latest_first before) no_more)) stands

    pub others_counted : received_frame_count isi frames ≡ received_frame_count isi (frames ++ b ∷ [])
    others_counted =
        let same : received_frame_count isi frames + 0 ≡ received_frame_count isi frames = omega arith in
        sym (one.counted ∙ ap (λ (of : Bool). received_frame_count isi frames + cond of 1 0) off ∙ same)

    pub nothing_added : added_on_isi isi frames b ≡ []
    nothing_added = added_of ∙ ap (λ (t : List PlacedPacket). frames_of_pdus (pdus_after before t)) no_more

  -- what was received stays
  pub frames_stay : frames_on_isi isi (frames ++ b ∷ []) ≡ frames_on_isi isi frames ++ added_on_isi isi frames b
  frames_stay =
      ap frames_of_pdus one.pdus
      ∙ flat_map-append (λ (x : PlacedPdu). frame_of_pdu x.pdu) (received_pdus isi frames) (pdus_after before more)
      ∙ ap (λ (t : List (List ℕ)). frames_on_isi isi frames ++ t) (sym added_of)

-- What a bridge makes of a frame of its ISI.
module _ (isi : ℕ) (frames : List (List ℕ)) (b field : List ℕ) (of_isi : is_frame_of isi b ≡ true) (field_is : (frame_fields b).field ≡ field)
    (bridge : BridgeState) (slots : SlotsState) (units_are : bridge.units ≡ of_pdus slots) (has : HasTakenFrames isi bridge frames) where
  same_slots : has.state ≡ slots
  same_slots = let both : of_pdus has.state ≡ of_pdus slots = sym has.units_are ∙ units_are in cc

  pub slots_stand : Stands slots (latest_first [] (received_gse_packets isi frames))
  slots_stand = subst (λ (s : SlotsState). Stands s (latest_first [] (received_gse_packets isi frames))) same_slots has.stands

  number_is : slots.frame_number ≡ received_frame_count isi frames
  number_is = ap (λ (s : SlotsState). s.frame_number) (sym same_slots) ∙ has.frame_number_is

  abbrev these : ℕ → List PlacedPacket
  these h = placed (length frames) h 0 (packets_of field)

  pub frame_taken : (now : SlotsState) (n : ℕ) → now.frame_number ≡ slots.frame_number + 1
      → Stands now (latest_first (latest_first [] (received_gse_packets isi frames)) (placed (length frames) (slots.frame_number + 1) 0 (packets_of field)))
      → HasTakenFrames isi (record { id = bridge.id; taken = n; units = of_pdus now }) (frames ++ b ∷ [])
  frame_taken now n counted stands = record {
    selected = has.selected;
    state = now;
    units_are = refl;
    stands = stands_after isi frames b field of_isi field_is now
        (subst (λ (h : ℕ). Stands now (latest_first (latest_first [] (received_gse_packets isi frames)) (these (h + 1)))) number_is stands);
    frame_number_is = counted ∙ ap (λ (h : ℕ). h + 1) number_is ∙ counted_after isi frames b field of_isi field_is;
  }

  pub frames_handed : frames_of_pdus (pdus_after (latest_first [] (received_gse_packets isi frames)) (placed (length frames) (slots.frame_number + 1) 0 (packets_of field))) ≡ added_on_isi isi frames b
  frames_handed =
      ap (λ (h : ℕ). frames_of_pdus (pdus_after (latest_first [] (received_gse_packets isi frames)) (these (h + 1)))) number_is ∙ sym (added_here isi frames b field of_isi field_is)

-- and of another
pub frame_passed : (isi : ℕ) (frames : List (List ℕ)) (b : List ℕ) → is_frame_of isi b ≡ false → (bridge : BridgeState) (n : ℕ) → HasTakenFrames isi bridge frames
    → HasTakenFrames isi (record { id = bridge.id; taken = n; units = bridge.units }) (frames ++ b ∷ [])
frame_passed isi frames b off bridge n has = record {
  selected = has.selected;
  state = has.state;
  units_are = has.units_are;
  stands = others_stand isi frames b off has.state has.stands;
  frame_number_is = has.frame_number_is ∙ others_counted isi frames b off;
}

pub unreadable : (isi : ℕ) (b : List ℕ) → is_frame b ≡ false → is_frame_of isi b ≡ false
unreadable isi b refused = ap (λ (t : Bool). t && eqb (frame_fields b).isi isi) refused

pub elsewhere : (isi : ℕ) (b : List ℕ) (fields : FrameFields) → is_frame b ≡ true → fields ≡ frame_fields b → (fields.isi ≡ isi → ⊥) → is_frame_of isi b ≡ false
elsewhere isi b fields readable same other =
    ap (λ (t : Bool). t && eqb (frame_fields b).isi isi) readable ∙ ne_eqb (frame_fields b).isi isi (λ is. other (ap (λ (f : FrameFields). f.isi) same ∙ is))

pub here : (isi : ℕ) (b : List ℕ) (fields : FrameFields) → is_frame b ≡ true → fields ≡ frame_fields b → fields.isi ≡ isi → is_frame_of isi b ≡ true
here isi b fields readable same is =
    ap (λ (t : Bool). t && eqb (frame_fields b).isi isi) readable ∙ eq-eqb (frame_fields b).isi isi (ap (λ (f : FrameFields). f.isi) (sym same) ∙ is)

-- the ISI is the one that is selected
pub is_selected : (id : Option ℕ) (p q : ℕ) → not (option_eq eqb id (Some p)) ≡ false → id ≡ Some q → p ≡ q
is_selected id p q equal is =
    let one : not (eqb q p) ≡ false = ap (λ (o : Option ℕ). not (option_eq eqb o (Some p))) (sym is) ∙ equal in
    sym (eqb-true q p (right (eqb q p) one))
  where
    right : (t : Bool) → not t ≡ false → t ≡ true
    right true e = refl
    right false e = absurd (cc)
