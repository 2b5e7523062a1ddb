-- One record more of a recording of transport packets.
use Rattle.std.proofs.Common.{◌≡◌, ℕ, Bool, true, false, not, ◌&&◌, eqb, eq-eqb, List, [], ◌∷◌, ◌++◌, refl, ap, ap₂, sym, ◌∙◌, subst, append_assoc, Option, None, Some}
use Rattle.std.specs.Option.{option_eq}
use Rattle.std.proofs.lemmas.Bool.{ne_eqb}
use Rattle.std.proofs.lemmas.List.{append-nil}
use Rattle.std.proofs.lemmas.Grind.{flat_map-append}
use Rattle.ts_spec.specs.Form.{IsLawful}
use Rattle.ts_spec.specs.Recording.{Record}
use Rattle.ts_spec.specs.Packet.{PacketFields, is_packet, fields_of, continues}
use Rattle.ts_spec.specs.Packetized.{no_packet}
use Rattle.ts_spec.specs.Received.{Arrival, packet_of, is_of, received_after, received_packets}
use Rattle.ts_spec.specs.Sndu.{sndu_form}
use Rattle.ts_spec.specs.Events.{Event, events_of}
use Rattle.reassembly_law.specs.Records.{last_bytes}
use Rattle.reassembly_law.specs.UnderWay.{open_units, last_packet, new_events}
use Rattle.reassembly_law.proofs.Steps.{events_more}
use Rattle.ule_unit.specs.Spans.{sndu_lawful}
use Rattle.ts_packet.specs.declared.continuity.Link.{Link}
use Rattle.ts_packet.specs.Links.{link_of}
use Rattle.unit_stream.specs.Joining.{JoinerState, Stands, packets_with}
use Rattle.unit_stream.specs.Telling.{HasTold}
use Rattle.reception_spec.specs.Packets.{is_on}
use Rattle.service_reception.specs.Reception.{packet_record}
use Rattle.service_reception.proofs.Proper.{events_proper}
use Rattle.service_reception.proofs.Records.{packet_at, packet_in, received_more, none_received, last_with}
use Rattle.outlet_spec.specs.Pairs.{pairs_of, Delivers}
use Rattle.outlet_spec.proofs.Pairs.{delivers_nothing}
use Rattle.service_reception.proofs.Taken.{told_with}
use Rattle.outlet_spec.specs.Going.{Going}
use Rattle.gse_reception.specs.Outlets.{HandsOut}
use Rattle.bridge_spec.specs.Frames.{frames_on_pid}
use Rattle.bridge_frame.specs.Sndus.{SnduState, HasTakenOn, added_on_pid, frame_of_event, frames_of_events, HearsSndu}
use Rattle.bridge_frame.specs.Bridge.{BridgeState, HasTakenRecords}
use Rattle.bridge_frame.proofs.Heard.{all_handed, added_are, frames_of_all}

-- what a packet of the PID leaves, and what it hands out
pub record IsTaken {T A E : Type 0} (StandsFor : T → List (ℕ × List ℕ) → Type 0) (Refused : T → ℕ → List ℕ → Type 0) (services faults : T → ℕ)
    (pid : ℕ) (records : List Record) (r : Record) (state : SnduState) (old new : Going T A E) : Type 0 where
  pub received : HasTakenOn pid state (records ++ r ∷ [])
  pub hands : HandsOut StandsFor Refused services faults 0 (added_on_pid pid records r) old new

module _ {T A E L : Type 0} (StandsFor : T → List (ℕ × List ℕ) → Type 0) (Refused : T → ℕ → List ℕ → Type 0) (services faults : T → ℕ)
    (Hears : L → Event → L → Type 0) (view : L → Going T A E)
    (each : (old new : L) (event : Event) → Hears old event new → HearsSndu StandsFor Refused services faults event (view old) (view new)) where
  pub record_taken : (lawful : IsLawful sndu_form) (pid : ℕ) (records : List Record) (moment : ℕ) (bytes : List ℕ) (last now_last : Option (List ℕ)) (joiner now : JoinerState) (link : Link) (a b : L)
      → HasTakenOn pid (record { last = last; joiner = joiner }) records → is_of pid bytes ≡ true → link ≡ link_of last bytes → now_last ≡ Some bytes
      → HasTold sndu_form now (packets_with link (received_packets pid records) (packet_at records moment bytes)) (events_of sndu_form (received_packets pid records)) Hears a b
      → IsTaken StandsFor Refused services faults pid records (packet_record moment bytes) (record { last = now_last; joiner = now }) (view a) (view b)
  record_taken lawful pid records moment bytes last now_last joiner now link a b on of_pid linked seen fed =
      let r : Record = packet_record moment bytes in
      let given : List Event = events_of sndu_form (received_packets pid records) in
      let told = told_with Hears sndu_form pid records moment bytes last link now a b on.last_is of_pid linked fed in
      record {
        received = record { last_is = seen ∙ last_with pid records moment bytes last on.last_is of_pid; stands = told.stands };
        hands = subst (λ (t : List (List ℕ)). HandsOut StandsFor Refused services faults 0 t (view a) (view b)) (sym (added_are pid records r told.events told.events_are))
            (all_handed StandsFor Refused services faults Hears view each lawful told.events a b told.heard
            (events_proper sndu_form lawful (received_packets pid (records ++ r ∷ [])) given told.events told.events_are));
      }

-- A record that is no packet of the PID.
module _ (pid : ℕ) (records : List Record) (r : Record) (off : is_on pid r ≡ false) where
  pub others_taken : (state : SnduState) → HasTakenOn pid state records → HasTakenOn pid state (records ++ r ∷ [])
  others_taken state on = record {
    last_is = on.last_is ∙ ap (last_bytes None) (sym (none_received pid records r off));
    stands = subst (λ (t : List Arrival). Stands sndu_form state.joiner t) (sym (none_received pid records r off)) on.stands;
  }

  pub nothing_added : added_on_pid pid records r ≡ []
  nothing_added = added_are pid records r [] (ap (events_of sndu_form) (none_received pid records r off) ∙ sym (append-nil (events_of sndu_form (received_packets pid records))))

-- so a bridge stands for it too, and nothing is handed out
pub passed_over : (pid : ℕ) (records : List Record) (r : Record) → is_on pid r ≡ false → (bridge : BridgeState) (n : ℕ) → HasTakenRecords pid bridge records
    → HasTakenRecords pid (record { id = bridge.id; taken = n; units = bridge.units }) (records ++ r ∷ [])
passed_over pid records r off bridge n has = record {
  selected = has.selected;
  state = has.state;
  units_are = has.units_are;
  received = others_taken pid records r off has.state has.received;
}

pub none_told : (stands : List (ℕ × List ℕ) → Type 0) (added : List (List ℕ)) → added ≡ [] → Delivers stands stands (pairs_of 0 added)
none_told stands added none = delivers_nothing stands (pairs_of 0 added) (ap (pairs_of 0) none)

-- a record without a moment
pub untimed : (pid : ℕ) (moment : Option ℕ) (bytes : List ℕ) → moment ≡ None → is_on pid (record { moment = moment; bytes = bytes }) ≡ false
untimed pid moment bytes none = ap (λ (m : Option ℕ). is_on pid (record { moment = m; bytes = bytes })) none

-- the PID or ISI of a packet or frame is not the one that is selected
pub not_selected : (id : Option ℕ) (p q : ℕ) → not (option_eq eqb id (Some p)) ≡ true → id ≡ Some q → p ≡ q → ⊥
not_selected id p q other is same =
    let equal : not (option_eq eqb id (Some p)) ≡ false = ap (λ (o : Option ℕ). not (option_eq eqb o (Some p))) is ∙ ap not (eq-eqb q p (sym same)) in
    cc

-- a packet that can't be read
pub unreadable : (pid : ℕ) (bytes : List ℕ) → is_packet bytes ≡ false → is_of pid bytes ≡ false
unreadable pid bytes refused = ap (λ (b : Bool). b && eqb (fields_of bytes).pid pid) refused

-- one of another PID
pub elsewhere : (pid : ℕ) (bytes : List ℕ) (packet : PacketFields) → is_packet bytes ≡ true → packet ≡ fields_of bytes → (packet.pid ≡ pid → ⊥) → is_of pid bytes ≡ false
elsewhere pid bytes packet readable same other =
    ap (λ (b : Bool). b && eqb (fields_of bytes).pid pid) readable ∙ ne_eqb (fields_of bytes).pid pid (λ is. other (ap (λ (p : PacketFields). p.pid) same ∙ is))

-- a record of another PID, or one that is refused
pub off_other : (pid : ℕ) (moment : Option ℕ) (bytes : List ℕ) → is_of pid bytes ≡ false → is_on pid (record { moment = moment; bytes = bytes }) ≡ false
off_other pid None bytes off = refl
off_other pid (Some m) bytes off = off

-- What was received stays, whatever packets follow.

events_front : IsLawful sndu_form → (packets others : List Arrival) → (more : List Event) × (events_of sndu_form (packets ++ others) ≡ events_of sndu_form packets ++ more)
events_front lawful packets [] = ([], ap (events_of sndu_form) (append-nil packets) ∙ sym (append-nil (events_of sndu_form packets)))
events_front lawful packets (next ∷ others) =
    let one : List Event = new_events sndu_form (continues (last_packet no_packet packets) (packet_of next)) (open_units sndu_form packets) next in
    let rest : (more : List Event) × (events_of sndu_form ((packets ++ next ∷ []) ++ others) ≡ events_of sndu_form (packets ++ next ∷ []) ++ more) = events_front lawful (packets ++ next ∷ []) others in (
      one ++ rest.0,
      ap (events_of sndu_form) (sym (append_assoc packets (next ∷ []) others)) ∙ rest.1
          ∙ ap (λ (t : List Event). t ++ rest.0) (events_more sndu_form lawful no_packet packets next)
          ∙ append_assoc (events_of sndu_form packets) one rest.0,
    )

pub frames_stay : (pid : ℕ) (records : List Record) (r : Record) → frames_on_pid pid (records ++ r ∷ []) ≡ frames_on_pid pid records ++ added_on_pid pid records r
frames_stay pid records r =
    let packets : List Arrival = received_packets pid records in
    let others : List Arrival = received_after (last_bytes None packets) (packet_in pid records r) in
    let front : (more : List Event) × (events_of sndu_form (packets ++ others) ≡ events_of sndu_form packets ++ more) = events_front sndu_lawful packets others in
    let told : events_of sndu_form (received_packets pid (records ++ r ∷ [])) ≡ events_of sndu_form packets ++ front.0 =
    ap (events_of sndu_form) (received_more pid records r (last_bytes None packets) refl) ∙ front.1 in
    frames_of_all pid (records ++ r ∷ []) ∙ ap frames_of_events told ∙ flat_map-append frame_of_event (events_of sndu_form packets) front.0
    ∙ ap₂ (λ (x y : List (List ℕ)). x ++ y) (sym (frames_of_all pid records)) (sym (added_are pid records r front.0 told))
