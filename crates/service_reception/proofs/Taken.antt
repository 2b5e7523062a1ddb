-- One packet of a service: what was received before it, and what is received with it.
use Rattle.std.proofs.Common.{◌≡◌, ℕ, ◌^◌, ◌<◌, true, List, [], ◌∷◌, ◌++◌, length, drop, ap, sym, ◌∙◌, subst, arith, length-append, Option, None, Some, Result, Ok, Err, OnOk, OnErr}
use Rattle.std.proofs.lemmas.List.{drop_at}
use Rattle.ts_spec.specs.Form.{UnitForm, IsLawful}
use Rattle.ts_spec.specs.Recording.{Record}
use Rattle.ts_spec.specs.Received.{Arrival, is_of, received_packets}
use Rattle.ts_spec.specs.Events.{Event, events_of}
use Rattle.reassembly_law.specs.Records.{last_bytes}
use Rattle.plan_spec.specs.Plan.{KindFields, ServiceFields, pid_of}
use Rattle.stream_spec.specs.Services.{form_of_kind}
use Rattle.reception_spec.specs.Numbers.{PidNumbers, pid_numbers, unit_numbers}
use Rattle.reception_spec.specs.Delivered.{delivered_datagrams}
use Rattle.ts_packet.specs.declared.continuity.Link.{Link}
use Rattle.ts_packet.specs.Links.{link_of}
use Rattle.unit_stream.specs.Joining.{JoinerState, Stands, packets_with}
use Rattle.unit_stream.specs.Telling.{HasTold}
use Rattle.service_counts.specs.declared.counts.ServiceCounts.{ServiceCounts}
use Rattle.service_reception.specs.Counting.{on_pid, of_units, counted_link, units_in}
use Rattle.service_reception.specs.Taking.{HasCounted, Hearing, HearsEvent, delivered_of}
use Rattle.service_reception.specs.Services.{IsServed}
use Rattle.outlet_spec.specs.Pairs.{pairs_of, Delivers, DeliversFront}
use Rattle.service_reception.specs.Reception.{ReceptionState, HasTaken, packet_record, added_by}
use Rattle.service_reception.proofs.Counted.{delivered_of-append}
use Rattle.service_reception.proofs.Few.{few_in_all}
use Rattle.service_reception.proofs.Proper.{events_proper}
use Rattle.service_reception.proofs.Steps.{all_heard}
use Rattle.service_reception.proofs.Records.{packet_at, received_with, last_with}
use Rattle.service_reception.proofs.Links.{link_counted}
use Rattle.service_reception.proofs.Units.{units_of_events, delivered_of_events, numbers_of_pid}

abbrev pub state_of : Option (List ℕ) → JoinerState → ServiceCounts → ReceptionState
state_of last joiner counts = record { last = last; joiner = joiner; on_pid = on_pid counts; of_units = of_units counts }

-- what was received of a service, by the form of its units and its PID
pub record HasOn (form : UnitForm) (pid : ℕ) (it : ServiceFields) (last : Option (List ℕ)) (joiner : JoinerState) (counts : ServiceCounts) (records : List Record) : Type 0 where
  pub last_is : last ≡ last_bytes None (received_packets pid records)
  pub stands : Stands form joiner (received_packets pid records)
  pub on_pid_are : on_pid counts ≡ pid_numbers form pid records
  pub of_units_are : of_units counts ≡ unit_numbers it (units_in (events_of form (received_packets pid records)))

pub same_pid : (p q : ℕ) (o : Option ℕ) → o ≡ Some p → o ≡ Some q → p ≡ q
same_pid p q o is_p is_q = cc

pub has_on : (form : UnitForm) (pid : ℕ) (it : ServiceFields) (last : Option (List ℕ)) (joiner : JoinerState) (counts : ServiceCounts) (records : List Record)
    → form_of_kind it.kind ≡ form → pid_of it.kind ≡ Some pid → HasTaken it (state_of last joiner counts) records → HasOn form pid it last joiner counts records
has_on form pid it last joiner counts records form_is pid_is received =
    let same : received.pid ≡ pid = same_pid received.pid pid (pid_of it.kind) received.pid_is pid_is in
    record {
      last_is = received.last_is ∙ ap (λ (p : ℕ). last_bytes None (received_packets p records)) same;
      stands = subst (λ (f : UnitForm). Stands f joiner (received_packets pid records)) form_is
          (subst (λ (p : ℕ). Stands (form_of_kind it.kind) joiner (received_packets p records)) same received.stands);
      on_pid_are = received.on_pid_are ∙ numbers_of_pid form pid it records form_is pid_is;
      of_units_are = received.of_units_are ∙ ap (unit_numbers it) (units_of_events form pid it records form_is pid_is);
    }

pub has_received : (form : UnitForm) (pid : ℕ) (it : ServiceFields) (last : Option (List ℕ)) (joiner : JoinerState) (counts : ServiceCounts) (records : List Record)
    → form_of_kind it.kind ≡ form → pid_of it.kind ≡ Some pid → HasOn form pid it last joiner counts records → HasTaken it (state_of last joiner counts) records
has_received form pid it last joiner counts records form_is pid_is on = record {
  pid = pid;
  pid_is = pid_is;
  last_is = on.last_is;
  stands = subst (λ (f : UnitForm). Stands f joiner (received_packets pid records)) (sym form_is) on.stands;
  on_pid_are = on.on_pid_are ∙ sym (numbers_of_pid form pid it records form_is pid_is);
  of_units_are = on.of_units_are ∙ ap (unit_numbers it) (sym (units_of_events form pid it records form_is pid_is));
}

-- the packet is counted, and its events are to be counted
pub counting_begins : (form : UnitForm) (pid : ℕ) (it : ServiceFields) (records : List Record) (moment : ℕ) (bytes : List ℕ) (last : Option (List ℕ)) (joiner : JoinerState) (before after : ServiceCounts) (link : Link)
    → HasOn form pid it last joiner before records → is_of pid bytes ≡ true → link ≡ link_of last bytes → length records < 2 ^ 32
    → on_pid after ≡ counted_link (on_pid before) link → of_units after ≡ of_units before
    → HasCounted it (pid_numbers form pid (records ++ packet_record moment bytes ∷ [])) after (events_of form (received_packets pid records))
counting_begins form pid it records moment bytes last joiner before after link on of_pid linked few packets units = record {
  on_pid_are = packets ∙ ap (λ (n : PidNumbers). counted_link n link) on.on_pid_are ∙ link_counted form pid records moment bytes last link on.last_is of_pid linked few;
  of_units_are = units ∙ on.of_units_are;
}

-- the events that the packet adds were taken
pub told_with : {L : Type 0} (Hears : L → Event → L → Type 0) (form : UnitForm) (pid : ℕ) (records : List Record) (moment : ℕ) (bytes : List ℕ) (last : Option (List ℕ)) (link : Link) (now : JoinerState) (a b : L)
    → last ≡ last_bytes None (received_packets pid records) → is_of pid bytes ≡ true → link ≡ link_of last bytes
    → HasTold form now (packets_with link (received_packets pid records) (packet_at records moment bytes)) (events_of form (received_packets pid records)) Hears a b
    → HasTold form now (received_packets pid (records ++ packet_record moment bytes ∷ [])) (events_of form (received_packets pid records)) Hears a b
told_with Hears form pid records moment bytes last link now a b last_is of_pid linked told =
    subst (λ (t : List Arrival). HasTold form now t (events_of form (received_packets pid records)) Hears a b) (received_with pid records moment bytes last link last_is of_pid linked) told

-- what the events of the packet deliver is what the record adds
pub added_of : (form : UnitForm) (pid : ℕ) (it : ServiceFields) (records : List Record) (r : Record) (events : List Event) → form_of_kind it.kind ≡ form → pid_of it.kind ≡ Some pid
    → events_of form (received_packets pid (records ++ r ∷ [])) ≡ events_of form (received_packets pid records) ++ events
    → added_by it records r ≡ delivered_of it events
added_of form pid it records r events form_is pid_is told =
    let before : List Event = events_of form (received_packets pid records) in
    let all : delivered_datagrams it (records ++ r ∷ []) ≡ delivered_of it before ++ delivered_of it events =
    delivered_of_events form pid it (records ++ r ∷ []) form_is pid_is ∙ ap (delivered_of it) told ∙ delivered_of-append it before events in
    ap (λ (t : List (List ℕ)). drop (length (delivered_datagrams it records)) t) all
    ∙ drop_at (delivered_of it before) (delivered_of it events) (length (delivered_datagrams it records))
    (ap (λ (t : List (List ℕ)). length t) (sym (delivered_of_events form pid it records form_is pid_is)))

-- all its events are counted
pub record_received : (form : UnitForm) (pid : ℕ) (it : ServiceFields) (records : List Record) (moment : ℕ) (bytes : List ℕ) (last now_last : Option (List ℕ)) (joiner now : JoinerState) (before after : ServiceCounts) (events : List Event)
    → form_of_kind it.kind ≡ form → pid_of it.kind ≡ Some pid → HasOn form pid it last joiner before records → is_of pid bytes ≡ true → now_last ≡ Some bytes
    → Stands form now (received_packets pid (records ++ packet_record moment bytes ∷ []))
    → events_of form (received_packets pid (records ++ packet_record moment bytes ∷ [])) ≡ events_of form (received_packets pid records) ++ events
    → HasCounted it (pid_numbers form pid (records ++ packet_record moment bytes ∷ [])) after (events_of form (received_packets pid records) ++ events)
    → HasTaken it (state_of now_last now after) (records ++ packet_record moment bytes ∷ [])
record_received form pid it records moment bytes last now_last joiner now before after events form_is pid_is on of_pid seen stands told counted =
    let all : HasCounted it (pid_numbers form pid (records ++ packet_record moment bytes ∷ [])) after (events_of form (received_packets pid (records ++ packet_record moment bytes ∷ []))) =
    subst (HasCounted it (pid_numbers form pid (records ++ packet_record moment bytes ∷ [])) after) (sym told) counted in
    has_received form pid it now_last now after (records ++ packet_record moment bytes ∷ []) form_is pid_is (record {
      last_is = seen ∙ last_with pid records moment bytes last on.last_is of_pid;
      stands = stands;
      on_pid_are = all.on_pid_are;
      of_units_are = all.of_units_are;
    })

-- all are delivered too
pub record_told : {T E : Type 0} (result : Result T E) (form : UnitForm) (pid : ℕ) (it : ServiceFields) (records : List Record) (r : Record)
    (a b : List (ℕ × List ℕ) → Type 0) (number : ℕ) (events : List Event) → form_of_kind it.kind ≡ form → pid_of it.kind ≡ Some pid
    → events_of form (received_packets pid (records ++ r ∷ [])) ≡ events_of form (received_packets pid records) ++ events
    → OnOk result (Delivers a b (pairs_of number (delivered_of it events)))
    → OnOk result (Delivers a b (pairs_of number (added_by it records r)))
record_told (Err x) form pid it records r a b number events form_is pid_is told delivered = tt
record_told (Ok x) form pid it records r a b number events form_is pid_is told delivered =
    subst (λ (t : List (List ℕ)). Delivers a b (pairs_of number t)) (sym (added_of form pid it records r events form_is pid_is told)) delivered

pub record_stopped : {T E : Type 0} (result : Result T E) (form : UnitForm) (pid : ℕ) (it : ServiceFields) (records : List Record) (r : Record)
    (a b : List (ℕ × List ℕ) → Type 0) (Refused : ℕ → List ℕ → Type 0) (number : ℕ) (events : List Event) → form_of_kind it.kind ≡ form → pid_of it.kind ≡ Some pid
    → events_of form (received_packets pid (records ++ r ∷ [])) ≡ events_of form (received_packets pid records) ++ events
    → OnErr result (DeliversFront a b Refused (pairs_of number (delivered_of it events)))
    → OnErr result (DeliversFront a b Refused (pairs_of number (added_by it records r)))
record_stopped (Ok x) form pid it records r a b Refused number events form_is pid_is told stops = tt
record_stopped (Err x) form pid it records r a b Refused number events form_is pid_is told stops =
    subst (λ (t : List (List ℕ)). DeliversFront a b Refused (pairs_of number t)) (sym (added_of form pid it records r events form_is pid_is told)) stops

-- What is known of a record once the listener took its events.
pub record IsHeard {T A E : Type 0} (StandsFor : T → List (ℕ × List ℕ) → Type 0) (Refused : T → ℕ → List ℕ → Type 0) (it : ServiceFields) (state : ReceptionState) (records : List Record) (r : Record)
    (number : ℕ) (before after : T) (went : Result A E) : Type 0 where
  pub received : HasTaken it state (records ++ r ∷ [])
  pub told : OnOk went (Delivers (StandsFor before) (StandsFor after) (pairs_of number (added_by it records r)))
  pub stopped : OnErr went (DeliversFront (StandsFor before) (StandsFor after) (Refused after) (pairs_of number (added_by it records r)))

module _ {L T A E : Type 0} (StandsFor : T → List (ℕ × List ℕ) → Type 0) (Refused : T → ℕ → List ℕ → Type 0) (services faults : T → ℕ)
    (Hears : L → Event → L → Type 0) (view : L → Hearing T A E) (form : UnitForm) (lawful : IsLawful form) (IsOfKind : KindFields → Type 0)
    (each : (old new : L) (event : Event) → Hears old event new → HearsEvent StandsFor Refused services faults form IsOfKind event (view old) (view new)) where
  pub record_heard : (pid : ℕ) (it : ServiceFields) (records : List Record) (moment : ℕ) (bytes : List ℕ) (last now_last : Option (List ℕ)) (joiner now : JoinerState) (before : ServiceCounts) (link : Link) (a b : L) (x : A)
      → form_of_kind it.kind ≡ form → pid_of it.kind ≡ Some pid → IsServed IsOfKind (view a).filter it → length records < 2 ^ 32
      → HasOn form pid it last joiner before records → is_of pid bytes ≡ true → link ≡ link_of last bytes → now_last ≡ Some bytes
      → on_pid (view a).counts ≡ counted_link (on_pid before) link → of_units (view a).counts ≡ of_units before → (view a).went ≡ Ok x
      → HasTold form now (packets_with link (received_packets pid records) (packet_at records moment bytes)) (events_of form (received_packets pid records)) Hears a b
      → IsHeard StandsFor Refused it (state_of now_last now (view b).counts) records (packet_record moment bytes) (view a).number (view a).outlet (view b).outlet (view b).went
  record_heard pid it records moment bytes last now_last joiner now before link a b x form_is pid_is served few on of_pid linked seen packets units going fed =
      let r : Record = packet_record moment bytes in
      let given : List Event = events_of form (received_packets pid records) in
      let told = told_with Hears form pid records moment bytes last link now a b on.last_is of_pid linked fed in
      let heard = all_heard StandsFor Refused services faults Hears view form lawful IsOfKind each it told.events a b told.heard served
      (events_proper form lawful (received_packets pid (records ++ r ∷ [])) given told.events told.events_are) in
      let few_events : length (given ++ told.events) < 2 ^ 64 =
      subst (λ (t : List Event). length t < 2 ^ 64) told.events_are (few_in_all form pid (records ++ r ∷ []) (omega (arith, length-append records (r ∷ []), few))) in
      record {
        received = record_received form pid it records moment bytes last now_last joiner now before (view b).counts told.events form_is pid_is on of_pid seen told.stands told.events_are
            (heard.counted (pid_numbers form pid (records ++ r ∷ [])) given few_events
            (counting_begins form pid it records moment bytes last joiner before (view a).counts link on of_pid linked few packets units));
        told = record_told (view b).went form pid it records r (StandsFor (view a).outlet) (StandsFor (view b).outlet) (view a).number told.events form_is pid_is told.events_are
            (subst (λ (w : Result A E). OnOk w (OnOk (view b).went (Delivers (StandsFor (view a).outlet) (StandsFor (view b).outlet) (pairs_of (view a).number (delivered_of it told.events))))) going heard.told);
        stopped = record_stopped (view b).went form pid it records r (StandsFor (view a).outlet) (StandsFor (view b).outlet) (Refused (view b).outlet) (view a).number told.events form_is pid_is told.events_are
            (subst (λ (w : Result A E). OnOk w (OnErr (view b).went (DeliversFront (StandsFor (view a).outlet) (StandsFor (view b).outlet) (Refused (view b).outlet) (pairs_of (view a).number (delivered_of it told.events))))) going heard.failed);
      }
