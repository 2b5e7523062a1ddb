-- From packets to frames: what a frame gives of a service comes of PDUs that end in it.
use Rattle.std.proofs.Common.{◌≡◌, ℕ, suc, ◌+◌, Bool, true, false, cond, List, [], ◌∷◌, ◌++◌, length, flat_map, take, drop, All, Option, Some, refl, ap, ap₂, sym, ◌∙◌, append_assoc, arith}
use Rattle.std.proofs.lemmas.List.Elements.{All-nil, All-cons, All-append}
use Rattle.gse_spec.specs.Frame.{frame_fields}
use Rattle.gse_spec.specs.Packet.{GsePacket, packets_of}
use Rattle.gse_spec.specs.Reassembly.{PlacedPacket, PlacedPdu, latest_first, pdu_ended, pdus_after}
use Rattle.gse_spec.specs.Received.{is_frame_of, placed, received_gse_packets, received_pdus, carried_by_pdu, delivered_by_pdu}
use Rattle.gse_spec.specs.Numbers.{received_frame_count}
use Rattle.gse_law.specs.Streams.{packets_of_frame, OneFrameMore}
use Rattle.plan_spec.specs.Plan.{PlanFields, isi_of}
use Rattle.bb_reception_spec.specs.Delivered.{service_at, delivered_on, given_by_frame}
use Rattle.last_byte_law.specs.Ends.{EndsWith, GivesEnded}
use Rattle.last_byte_law.proofs.Pdus.{ended_ends}

abbrev IsAt : ℕ → PlacedPdu → Type 0
IsAt place x = x.place ≡ place

at_place : (place : ℕ) (p : PlacedPacket) (xs : List PlacedPdu) → p.place ≡ place → All (EndsWith p) xs → All (IsAt place) xs
at_place place p [] is all = All-nil (IsAt place)
at_place place p (x ∷ xs) is all =
    let first : EndsWith p x = all 0 x (omega arith) in
    All-cons (IsAt place) x xs (first.place ∙ is) (at_place place p xs is (λ k d less. all (suc k) d (omega (arith, less))))

placed_end : (place frame_number index : ℕ) (packets : List GsePacket) (before : List PlacedPacket) → All (IsAt place) (pdus_after before (placed place frame_number index packets))
placed_end place frame_number index [] before = All-nil (IsAt place)
placed_end place frame_number index (packet ∷ packets) before =
    let p : PlacedPacket = record { place = place; frame_number = frame_number; index = index; packet = packet } in
    All-append (IsAt place) (pdu_ended before p) (pdus_after (p ∷ before) (placed place frame_number (index + 1) packets))
    (at_place place p (pdu_ended before p) refl (ended_ends before place frame_number index packet))
    (placed_end place frame_number (index + 1) packets (p ∷ before))

frame_ends : (isi place count : ℕ) (b : List ℕ) (before : List PlacedPacket) → All (IsAt place) (pdus_after before (packets_of_frame isi place count b))
frame_ends isi place count b before = by_test (is_frame_of isi b)
  where
    by_test : (t : Bool) → All (IsAt place) (pdus_after before (cond t (placed place (count + 1) 0 (packets_of (frame_fields b).field)) []))
    by_test true = placed_end place (count + 1) 0 (packets_of (frame_fields b).field) before
    by_test false = All-nil (IsAt place)

take_front : {X : Type 0} (xs : List X) (y : X) → take (length xs) (xs ++ y ∷ []) ≡ xs
take_front [] y = refl
take_front (x ∷ xs) y = ap (λ (t : List _). x ∷ t) (take_front xs y)

take_all : {X : Type 0} (xs : List X) (y : X) → take (suc (length xs)) (xs ++ y ∷ []) ≡ xs ++ y ∷ []
take_all [] y = refl
take_all (x ∷ xs) y = ap (λ (t : List _). x ∷ t) (take_all xs y)

drop_front : {X : Type 0} (xs ys : List X) → drop (length xs) (xs ++ ys) ≡ ys
drop_front [] ys = refl
drop_front (x ∷ xs) ys = drop_front xs ys

flat-append : {X Y : Type 0} (f : X → List Y) (xs ys : List X) → flat_map f (xs ++ ys) ≡ flat_map f xs ++ flat_map f ys
flat-append f [] ys = refl
flat-append f (x ∷ xs) ys = ap (λ (t : List _). f x ++ t) (flat-append f xs ys) ∙ sym (append_assoc (f x) (flat_map f xs) (flat_map f ys))

pub gives_ended : (plan : PlanFields) (k isi : ℕ) (frames : List (List ℕ)) (b : List ℕ) → isi_of (service_at plan k).kind ≡ Some isi → OneFrameMore isi frames b
    → GivesEnded (service_at plan k).filter isi frames b (given_by_frame plan k (frames ++ b ∷ []) (length frames))
gives_ended plan k isi frames b on more =
    let filter : List (List ℕ) = (service_at plan k).filter in
    let f : PlacedPdu → List (List ℕ) = λ x. delivered_by_pdu carried_by_pdu filter x.pdu in
    let news : List PlacedPdu = pdus_after (latest_first [] (received_gse_packets isi frames)) (packets_of_frame isi (length frames) (received_frame_count isi frames) b) in
    let all : List (List ℕ) = frames ++ b ∷ [] in
    let next : take (length frames + 1) all ≡ all = (let e : length frames + 1 ≡ suc (length frames) = omega arith in ap (λ (n : ℕ). take n all) e) ∙ take_all frames b in
    record {
      pdus = news;
      added = more.pdus;
      ends = frame_ends isi (length frames) (received_frame_count isi frames) b (latest_first [] (received_gse_packets isi frames));
      given_is =
          ap (λ (o : Option ℕ). drop (length (delivered_on o filter (take (length frames) all))) (delivered_on o filter (take (length frames + 1) all))) on
          ∙ ap₂ (λ (xs ys : List (List ℕ)). drop (length (delivered_on (Some isi) filter xs)) (delivered_on (Some isi) filter ys)) (take_front frames b) next
          ∙ ap (λ (ps : List PlacedPdu). drop (length (flat_map f (received_pdus isi frames))) (flat_map f ps)) more.pdus
          ∙ ap (λ (t : List (List ℕ)). drop (length (flat_map f (received_pdus isi frames))) t) (flat-append f (received_pdus isi frames) news)
          ∙ drop_front (flat_map f (received_pdus isi frames)) (flat_map f news);
    }
