-- One record more of those that a bridge has taken.
use Rattle.std.proofs.Common.{◌≡◌, ℕ, ◌-◌, true, false, List, [], ◌∷◌, ◌++◌, length, drop, refl, ap, sym, ◌∙◌, subst, arith, Option}
use Rattle.std.proofs.lemmas.List.{map-append}
use Rattle.wire_spec.specs.Causes.{Rose, raised}
use Rattle.ts_spec.specs.Recording.{Record, plain, records_of}
use Rattle.outlet_spec.specs.Pairs.{pairs_of, Delivers, DeliversFront}
use Rattle.outlet_spec.proofs.Pairs.{pairs_of-append, delivers_then, front_then}
use Rattle.bridge_spec.specs.Frames.{BridgeCarrier, on_pid, on_isi, frames_on_isi, received_ethernet_frames}
use Rattle.bridge_frame.specs.Bridge.{BridgeState, is_of_sndus, HasTakenRecords, HasTakenFrames}
use Rattle.bridge_frame.specs.Taking.{contents, frames_of_records, added_by_record, HasTaken, TookRecords, StoppedInRecord}
use Rattle.bridge_frame.proofs.Records.{frames_stay}
use Rattle.bridge_frame.proofs.Baseband.{frames_stay as baseband_stays}

contents_more : (records : List Record) (r : Record) → contents (records ++ r ∷ []) ≡ contents records ++ r.bytes ∷ []
contents_more records r = map-append (λ (it : Record). it.bytes) records (r ∷ [])

-- the records of a plain recording have the bytes of its pieces
contents_are : (pieces : List (List ℕ)) → contents (records_of plain pieces) ≡ pieces
contents_are [] = refl
contents_are (piece ∷ pieces) = ap (λ (rest : List (List ℕ)). piece ∷ rest) (contents_are pieces)

pub frames_of_pieces : (carrier : BridgeCarrier) (pieces : List (List ℕ)) → frames_of_records carrier (records_of plain pieces) ≡ received_ethernet_frames carrier pieces
frames_of_pieces (on_pid pid) pieces = refl
frames_of_pieces (on_isi isi) pieces = ap (frames_on_isi isi) (contents_are pieces)

-- what was received stays, on either carrier
frames_more : (carrier : BridgeCarrier) (records : List Record) (r : Record)
    → frames_of_records carrier (records ++ r ∷ []) ≡ frames_of_records carrier records ++ added_by_record carrier records r
frames_more (on_pid pid) records r = frames_stay pid records r
frames_more (on_isi isi) records r = ap (frames_on_isi isi) (contents_more records r) ∙ baseband_stays isi (contents records) r.bytes

pairs_more : (carrier : BridgeCarrier) (records : List Record) (r : Record)
    → pairs_of 0 (frames_of_records carrier (records ++ r ∷ [])) ≡ pairs_of 0 (frames_of_records carrier records) ++ pairs_of 0 (added_by_record carrier records r)
pairs_more carrier records r = ap (pairs_of 0) (frames_more carrier records r) ∙ pairs_of-append 0 (frames_of_records carrier records) (added_by_record carrier records r)

module _ (start mid now : BridgeState) (old mids new : List (ℕ × List ℕ) → Type 0) (faults mid_faults now_faults : ℕ) (records : List Record) (r : Record)
    (took : TookRecords start mid old mids faults mid_faults records)
    (received : (carrier : BridgeCarrier) (given : List Record) → HasTaken carrier mid given → HasTaken carrier now (given ++ r ∷ [])) where
  pub took_record : ((carrier : BridgeCarrier) (given : List Record) → HasTaken carrier mid given → Delivers mids new (pairs_of 0 (added_by_record carrier given r)))
      → now_faults ≡ mid_faults → TookRecords start now old new faults now_faults (records ++ r ∷ [])
  took_record written kept = λ carrier fresh.
      let so_far = took carrier fresh in
      record {
        received = received carrier records so_far.received;
        delivers = subst (λ (pairs : List (ℕ × List ℕ)). Delivers old new pairs) (sym (pairs_more carrier records r))
            (delivers_then old mids new (pairs_of 0 (frames_of_records carrier records)) (pairs_of 0 (added_by_record carrier records r)) so_far.delivers (written carrier records so_far.received));
        outlet_faults = kept ∙ so_far.outlet_faults;
      }

  pub stopped_in_record : (refused : ℕ → List ℕ → Type 0)
      → ((carrier : BridgeCarrier) (given : List Record) → HasTaken carrier mid given → DeliversFront mids new refused (pairs_of 0 (added_by_record carrier given r)))
      → Rose mid_faults now_faults → StoppedInRecord start now old new refused faults now_faults (records ++ r ∷ [])
  stopped_in_record refused failed rose = λ carrier fresh.
      let so_far = took carrier fresh in
      let stop = failed carrier records so_far.received in
      record {
        received = received carrier records so_far.received;
        stops = front_then old mids new refused (pairs_of 0 (frames_of_records carrier records)) (pairs_of 0 (added_by_record carrier records r)) (pairs_of 0 (frames_of_records carrier (records ++ r ∷ [])))
            (pairs_more carrier records r) so_far.delivers stop;
        before = records;
        last = r;
        records_are = refl;
        front = stop.front;
        late = refl;
        gives = stop.pairs_are;
        rose = rose ∙ ap (λ (n : ℕ). raised n 1) so_far.outlet_faults;
      }

-- A bridge of SNDUs has a PID, and one of GSE packets an ISI.
module _ (bridge : BridgeState) (P : BridgeCarrier → List Record → Type 0) where
  pub by_records : is_of_sndus bridge.units ≡ true → ((pid : ℕ) (given : List Record) → HasTakenRecords pid bridge given → P (on_pid pid) given)
      → (carrier : BridgeCarrier) (given : List Record) → HasTaken carrier bridge given → P carrier given
  by_records none each (on_pid pid) given has = each pid given has
  by_records none each (on_isi isi) given has = let pdus : is_of_sndus bridge.units ≡ false = ap is_of_sndus has.units_are in absurd (cc)

  pub by_frames : is_of_sndus bridge.units ≡ false → ((isi : ℕ) (given : List Record) → HasTakenFrames isi bridge (contents given) → P (on_isi isi) given)
      → (carrier : BridgeCarrier) (given : List Record) → HasTaken carrier bridge given → P carrier given
  by_frames none each (on_pid pid) given has = let sndus : is_of_sndus bridge.units ≡ true = ap is_of_sndus has.units_are in absurd (cc)
  by_frames none each (on_isi isi) given has = each isi given has

-- one frame more
pub taken_frame : (isi : ℕ) (bridge : BridgeState) (given : List Record) (r : Record) → HasTakenFrames isi bridge (contents given ++ r.bytes ∷ []) → HasTaken (on_isi isi) bridge (given ++ r ∷ [])
taken_frame isi bridge given r has = subst (HasTakenFrames isi bridge) (sym (contents_more given r)) has

-- A slice of 188 bytes is a packet.
pub whole_packet : (bytes packet : List ℕ) → length bytes ≡ 188 → packet ≡ drop (length bytes - 188) bytes → packet ≡ bytes
whole_packet bytes packet size is = let none : length bytes - 188 ≡ 0 = omega (arith, size) in is ∙ ap (λ (n : ℕ). drop n bytes) none

pub took_whole : (start now : BridgeState) (old new : List (ℕ × List ℕ) → Type 0) (faults now_faults : ℕ) (records : List Record) (moment : Option ℕ) (packet bytes : List ℕ) → packet ≡ bytes
    → TookRecords start now old new faults now_faults (records ++ record { moment = moment; bytes = packet } ∷ [])
    → TookRecords start now old new faults now_faults (records ++ record { moment = moment; bytes = bytes } ∷ [])
took_whole start now old new faults now_faults records moment packet bytes same took =
    subst (λ (b : List ℕ). TookRecords start now old new faults now_faults (records ++ record { moment = moment; bytes = b } ∷ [])) same took

pub stopped_whole : (start now : BridgeState) (old new : List (ℕ × List ℕ) → Type 0) (refused : ℕ → List ℕ → Type 0) (faults now_faults : ℕ) (records : List Record) (moment : Option ℕ)
    (packet bytes : List ℕ) → packet ≡ bytes
    → StoppedInRecord start now old new refused faults now_faults (records ++ record { moment = moment; bytes = packet } ∷ [])
    → StoppedInRecord start now old new refused faults now_faults (records ++ record { moment = moment; bytes = bytes } ∷ [])
stopped_whole start now old new refused faults now_faults records moment packet bytes same stopped =
    subst (λ (b : List ℕ). StoppedInRecord start now old new refused faults now_faults (records ++ record { moment = moment; bytes = b } ∷ [])) same stopped
