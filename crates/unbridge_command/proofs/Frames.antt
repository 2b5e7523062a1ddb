-- The Ethernet frames of more records and of more pieces, and pairs that are frames of service 0.
use Rattle.std.proofs.Common.{◌≡◌, ℕ, List, [], ◌∷◌, ◌++◌, refl, ap, ap₂, sym, ◌∙◌, append_assoc}
use Rattle.std.proofs.lemmas.List.{append-nil, map-append}
use Rattle.ts_spec.specs.Recording.{Record, plain_record, plain, records_of}
use Rattle.outlet_spec.specs.Pairs.{pairs_of}
use Rattle.bridge_spec.specs.Frames.{BridgeCarrier, on_pid, on_isi, frames_on_pid, frames_on_isi, received_ethernet_frames}
use Rattle.bridge_frame.specs.Sndus.{added_on_pid}
use Rattle.bridge_frame.specs.Bridge.{added_on_isi}
use Rattle.bridge_frame.specs.Taking.{contents, frames_of_records, added_by_record}
use Rattle.bridge_frame.proofs.Records.{frames_stay}
use Rattle.bridge_frame.proofs.Baseband.{frames_stay as baseband_stays}

-- one record more
pub record_stays : (carrier : BridgeCarrier) (records : List Record) (r : Record)
    → frames_of_records carrier (records ++ r ∷ []) ≡ frames_of_records carrier records ++ added_by_record carrier records r
record_stays (on_pid pid) records r = frames_stay pid records r
record_stays (on_isi isi) records r =
    ap (frames_on_isi isi) (map-append (λ (x : Record). x.bytes) records (r ∷ [])) ∙ baseband_stays isi (contents records) r.bytes

-- one piece more
piece_stays : (carrier : BridgeCarrier) (front : List (List ℕ)) (piece : List ℕ)
    → (added : List (List ℕ)) × (received_ethernet_frames carrier (front ++ piece ∷ []) ≡ received_ethernet_frames carrier front ++ added)
piece_stays (on_pid pid) front piece = (
  added_on_pid pid (records_of plain front) (plain_record piece),
  ap (frames_on_pid pid) (map-append plain_record front (piece ∷ [])) ∙ frames_stay pid (records_of plain front) (plain_record piece),
)
piece_stays (on_isi isi) front piece = (added_on_isi isi front piece, baseband_stays isi front piece)

-- more pieces
pub frames_go_on : (carrier : BridgeCarrier) (front rest : List (List ℕ))
    → (more : List (List ℕ)) × (received_ethernet_frames carrier (front ++ rest) ≡ received_ethernet_frames carrier front ++ more)
frames_go_on carrier front [] = ([], ap (received_ethernet_frames carrier) (append-nil front) ∙ sym (append-nil (received_ethernet_frames carrier front)))
frames_go_on carrier front (piece ∷ rest) =
    let one : (added : List (List ℕ)) × (received_ethernet_frames carrier (front ++ piece ∷ []) ≡ received_ethernet_frames carrier front ++ added) = piece_stays carrier front piece in
    let on : (more : List (List ℕ)) × (received_ethernet_frames carrier ((front ++ piece ∷ []) ++ rest) ≡ received_ethernet_frames carrier (front ++ piece ∷ []) ++ more) =
    frames_go_on carrier (front ++ piece ∷ []) rest in (
      one.0 ++ on.0,
      ap (received_ethernet_frames carrier) (sym (append_assoc front (piece ∷ []) rest)) ∙ on.1
          ∙ ap (λ (t : List (List ℕ)). t ++ on.0) one.1 ∙ append_assoc (received_ethernet_frames carrier front) one.0 on.0,
    )

-- Pairs of service 0 that stop at one of them.
pub record Split (frames : List (List ℕ)) (front : List (ℕ × List ℕ)) (service : ℕ) (datagram : List ℕ) : Type 0 where
  pub before : List (List ℕ)
  pub rest : List (List ℕ)
  pub frames_are : frames ≡ before ++ datagram ∷ rest
  pub front_is : front ≡ pairs_of 0 before
  pub zero_is : service ≡ 0

pub split : (frames : List (List ℕ)) (front : List (ℕ × List ℕ)) (service : ℕ) (datagram : List ℕ) (behind : List (ℕ × List ℕ))
    → pairs_of 0 frames ≡ front ++ (service, datagram) ∷ behind → Split frames front service datagram
split [] [] service datagram behind e = absurd (cc)
split [] (p ∷ front) service datagram behind e = absurd (cc)
split (frame ∷ frames) [] service datagram behind e =
    let own : ℕ × List ℕ = (0, frame) in
    let other : ℕ × List ℕ = (service, datagram) in
    let same : other ≡ own = cc in
    record {
      before = [];
      rest = frames;
      frames_are = ap (λ (p : ℕ × List ℕ). p.1 ∷ frames) (sym same);
      front_is = refl;
      zero_is = ap (λ (p : ℕ × List ℕ). p.0) same;
    }
split (frame ∷ frames) (p ∷ front) service datagram behind e =
    let pair : ℕ × List ℕ = (0, frame) in
    let first : pair ≡ p = cc in
    let later : pairs_of 0 frames ≡ front ++ (service, datagram) ∷ behind = cc in
    let more : Split frames front service datagram = split frames front service datagram behind later in
    record {
      before = frame ∷ more.before;
      rest = more.rest;
      frames_are = ap (λ (t : List (List ℕ)). frame ∷ t) more.frames_are;
      front_is = ap₂ (λ (x : ℕ × List ℕ) (t : List (ℕ × List ℕ)). x ∷ t) (sym first) more.front_is;
      zero_is = more.zero_is;
    }
