-- The readings of a data field, one after another: what was received so far, and what is still to come.
use Rattle.std.proofs.Common.{◌≡◌, ℕ, ◌+◌, ◌^◌, ◌<◌, List, [], ◌∷◌, ◌++◌, length, map, refl, ap, sym, ◌∙◌, subst, arith, length-append, append_assoc, Result}
use Rattle.std.specs.List.{flat_map}
use Rattle.std.proofs.lemmas.List.{append-nil}
use Rattle.std.proofs.lemmas.Grind.{flat_map-append}
use Rattle.gse_spec.specs.Packet.{GsePacket, Reading, packet, cut, reuse_first, short}
use Rattle.gse_spec.specs.Reassembly.{Pdu, pdu_of, pdu_ended_by}
use Rattle.gse_spec.specs.Received.{carried_by_pdu, delivered_by_pdu}
use Rattle.gse_spec.specs.Events.{bad_length_event, event_by}
use Rattle.gse_spec.specs.Numbers.{IsiNumbers, PduNumbers, pdu_numbers}
use Rattle.gse_reassembly.specs.Slots.{SlotsState, Takes}
use Rattle.gse_reception.specs.Counting.{counted_event, counted_events, counted_pdus}
use Rattle.gse_reception.specs.Steps.{events_in, pdus_in, ReceivedSoFar, with_packet, with_refusal, with_reading, with_readings, StandsSoFar, IsGoingOn}
use Rattle.outlet_spec.specs.Going.{Going}
use Rattle.gse_reception.specs.Outlets.{HandsOut}
use Rattle.gse_reception.proofs.Packets.{few_events, ended_are, packet_taken, refusal_taken}
use Rattle.gse_reception.proofs.Outlets.{hands_nothing, hands_both}

abbrev pub delivered : List (List ℕ) → List Pdu → List (List ℕ)
delivered filter pdus = flat_map (delivered_by_pdu carried_by_pdu filter) pdus

-- slots and counts
pub record Held : Type 0 where
  pub slots : SlotsState
  pub on_isi : IsiNumbers
  pub on_pdus : PduNumbers

module _ {T A E : Type 0} (StandsFor : T → List (ℕ × List ℕ) → Type 0) (Refused : T → ℕ → List ℕ → Type 0) (services faults : T → ℕ) where
  -- of all readings these are left, the others were taken, and the datagrams of their PDUs handed out
  pub record IsUnderWay (filter : List (List ℕ)) (service : ℕ) (so_far : ReceivedSoFar) (all left : List Reading) (held : Held) (begin now : Going T A E) : Type 0 where
    pub reached : ReceivedSoFar
    pub more : List Pdu
    pub goes_on : IsGoingOn filter reached left held.slots held.on_isi held.on_pdus
    pub leads : with_readings reached left ≡ with_readings so_far all
    pub pdus_are : reached.pdus ≡ so_far.pdus ++ more
    pub hands : HandsOut StandsFor Refused services faults service (delivered filter more) begin now

  -- whatever was received before
  abbrev pub AreUnderWay : List (List ℕ) → ℕ → List Reading → Held → List Reading → Held → Going T A E → Going T A E → Type 0
  AreUnderWay filter service all before left held begin now =
      (so_far : ReceivedSoFar) → IsGoingOn filter so_far all before.slots before.on_isi before.on_pdus → IsUnderWay filter service so_far all left held begin now

  pub begin_all : (filter : List (List ℕ)) (service : ℕ) (all : List Reading) (held : Held) (outlet : T) (went : Result A E)
      → AreUnderWay filter service all held all held (record { outlet = outlet; went = went }) (record { outlet = outlet; went = went })
  begin_all filter service all held outlet went so_far going = record {
    reached = so_far;
    more = [];
    goes_on = going;
    leads = refl;
    pdus_are = sym (append-nil so_far.pdus);
    hands = hands_nothing StandsFor Refused services faults service outlet went;
  }

  module _ (filter : List (List ℕ)) (service : ℕ) (all : List Reading) (before : Held) (begin : Going T A E) where
    pub packet_more : (p : GsePacket) (left : List Reading) (held now : Held) (mid new : Going T A E)
        → AreUnderWay filter service all before (packet p ∷ left) held begin mid
        → Takes held.slots p now.slots → now.slots.frame_number ≡ held.slots.frame_number
        → now.on_isi ≡ counted_events held.on_isi (events_in held.slots p) → now.on_pdus ≡ counted_pdus held.on_pdus (pdu_numbers carried_by_pdu filter (pdus_in held.slots p))
        → HandsOut StandsFor Refused services faults service (delivered filter (pdus_in held.slots p)) mid new
        → AreUnderWay filter service all before left now begin new
    packet_more p left held now mid new under takes same isi pdus hands so_far going =
        let way = under so_far going in
        let reached = way.reached in
        let few : length reached.events + reached.refused + 1 < 2 ^ 64 = omega (arith, way.goes_on.few) in
        let ends : List Pdu = map pdu_of (pdu_ended_by reached.before reached.place reached.frame_number reached.index p) in
        let ended = ended_are filter reached held.slots held.on_isi held.on_pdus way.goes_on.stand few p in
        record {
          reached = with_packet reached p;
          more = way.more ++ ends;
          goes_on = record {
            stand = packet_taken filter reached held.slots held.on_isi held.on_pdus way.goes_on.stand few p now.slots now.on_isi now.on_pdus takes same isi pdus;
            few = omega (
              arith,
              way.goes_on.few,
              few_events reached.before reached.frame_number p,
              length-append reached.events (event_by reached.before reached.frame_number p),
            );
          };
          leads = way.leads;
          pdus_are = ap (λ (t : List Pdu). t ++ ends) way.pdus_are ∙ append_assoc so_far.pdus way.more ends;
          hands = subst (λ (t : List (List ℕ)). HandsOut StandsFor Refused services faults service t begin new)
              (sym (flat_map-append (delivered_by_pdu carried_by_pdu filter) way.more ends))
              (hands_both StandsFor Refused services faults service (delivered filter way.more) (delivered filter ends) begin mid new way.hands
              (subst (λ (t : List Pdu). HandsOut StandsFor Refused services faults service (delivered filter t) mid new) ended hands));
        }

    -- one refusal more
    refusal_on : (so_far : ReceivedSoFar) (r : Reading) (left : List Reading) (held now : Held) (mid : Going T A E)
        → ((reached : ReceivedSoFar) → with_reading reached r ≡ with_refusal reached)
        → now.slots ≡ held.slots → now.on_isi ≡ counted_event held.on_isi bad_length_event → now.on_pdus ≡ held.on_pdus
        → IsUnderWay filter service so_far all (r ∷ left) held begin mid → IsUnderWay filter service so_far all left now begin mid
    refusal_on so_far r left held now mid refuses same isi pdus way =
        let reached = way.reached in
        let few : length reached.events + reached.refused + 1 < 2 ^ 64 = omega (arith, way.goes_on.few) in
        record {
          reached = with_refusal reached;
          more = way.more;
          goes_on = record {
            stand = subst (λ (s : SlotsState). StandsSoFar filter (with_refusal reached) s now.on_isi now.on_pdus) (sym same)
                (refusal_taken filter reached held.slots held.on_isi held.on_pdus way.goes_on.stand few now.on_isi now.on_pdus isi pdus);
            few = omega (arith, way.goes_on.few);
          };
          leads = ap (λ (t : ReceivedSoFar). with_readings t left) (sym (refuses reached)) ∙ way.leads;
          pdus_are = way.pdus_are;
          hands = way.hands;
        }

    pub refusal_more : (r : Reading) (left : List Reading) (held now : Held) (mid : Going T A E)
        → ((p : GsePacket) → r ≡ packet p → ⊥)
        → AreUnderWay filter service all before (r ∷ left) held begin mid
        → now.slots ≡ held.slots → now.on_isi ≡ counted_event held.on_isi bad_length_event → now.on_pdus ≡ held.on_pdus
        → AreUnderWay filter service all before left now begin mid
    refusal_more (packet p) left held now mid no_packet under same isi pdus so_far going = absurd (no_packet p refl)
    refusal_more cut left held now mid no_packet under same isi pdus so_far going = refusal_on so_far cut left held now mid (λ reached. refl) same isi pdus (under so_far going)
    refusal_more reuse_first left held now mid no_packet under same isi pdus so_far going = refusal_on so_far reuse_first left held now mid (λ reached. refl) same isi pdus (under so_far going)
    refusal_more short left held now mid no_packet under same isi pdus so_far going = refusal_on so_far short left held now mid (λ reached. refl) same isi pdus (under so_far going)

  -- no reading is left
  pub all_taken : (filter : List (List ℕ)) (service : ℕ) (so_far : ReceivedSoFar) (all : List Reading) (held : Held) (begin now : Going T A E)
      → IsUnderWay filter service so_far all [] held begin now
      → StandsSoFar filter (with_readings so_far all) held.slots held.on_isi held.on_pdus
  all_taken filter service so_far all held begin now way =
      subst (λ (t : ReceivedSoFar). StandsSoFar filter t held.slots held.on_isi held.on_pdus) way.leads way.goes_on.stand

  pub all_handed : (filter : List (List ℕ)) (service : ℕ) (so_far : ReceivedSoFar) (all : List Reading) (held : Held) (begin now : Going T A E) (more : List Pdu)
      → IsUnderWay filter service so_far all [] held begin now → (with_readings so_far all).pdus ≡ so_far.pdus ++ more
      → HandsOut StandsFor Refused services faults service (delivered filter more) begin now
  all_handed filter service so_far all held begin now more way pdus_are =
      subst (λ (t : List Pdu). HandsOut StandsFor Refused services faults service (delivered filter t) begin now)
      (same_behind so_far.pdus way.more more (sym way.pdus_are ∙ ap (λ (t : ReceivedSoFar). t.pdus) way.leads ∙ pdus_are)) way.hands
    where
      same_tail : {X : Type 0} (x : X) (ys zs : List X) → x ∷ ys ≡ x ∷ zs → ys ≡ zs
      same_tail x ys zs same = cc

      same_behind : {X : Type 0} (xs ys zs : List X) → xs ++ ys ≡ xs ++ zs → ys ≡ zs
      same_behind [] ys zs same = same
      same_behind (x ∷ xs) ys zs same = same_behind xs ys zs (same_tail x (xs ++ ys) (xs ++ zs) same)
