-- One service and one list of records: a front of a recording delivers a front of what the recording delivers.
use Rattle.std.proofs.Common.{◌≡◌, ◌⊎◌, inl, inr, ℕ, Bool, false, ◌&&◌, cond, Option, None, Some, List, [], ◌∷◌, ◌++◌, length, map, flat_map, drop, refl, ap, sym, ◌∙◌, append_assoc}
use Rattle.std.specs.Prelude.{is_some}
use Rattle.std.proofs.lemmas.List.{append-nil, map-append, drop_at}
use Rattle.std.proofs.lemmas.List.Concat.{flat_map-append}
use Rattle.std.proofs.lemmas.Simd.{map-map}
use Rattle.ts_spec.specs.Form.{UnitForm, IsLawful}
use Rattle.ts_spec.specs.Packetized.{no_packet}
use Rattle.ts_spec.specs.Recording.{Record}
use Rattle.ts_spec.specs.Received.{Arrival, is_of, no_record, arrival_of, arrivals, received_after, received_packets}
use Rattle.ts_spec.specs.Reassembly.{PlacedUnit, accepted_in, accepted_units}
use Rattle.ts_spec.specs.Events.{Event, events_of}
use Rattle.section_codec.specs.Spans.{section_lawful}
use Rattle.channel_law.proofs.Sndu.{sndu_lawful}
use Rattle.reassembly_law.specs.Records.{last_bytes}
use Rattle.reassembly_law.specs.UnderWay.{unit_of_event}
use Rattle.reassembly_law.proofs.OneRecord.{one_more}
use Rattle.reassembly_law.proofs.Steps.{events_more}
use Rattle.reassembly_law.proofs.Units.{of_events}
use Rattle.plan_spec.specs.Plan.{KindFields, ule, mpe, fec, gse, pid_of, ServiceFields}
use Rattle.stream_spec.specs.Services.{form_of_kind}
use Rattle.reception_spec.specs.Units.{delivered_by_unit}
use Rattle.reception_spec.specs.Packets.{is_on}
use Rattle.reception_spec.specs.Numbers.{units_on, units_of}
use Rattle.reception_spec.specs.Delivered.{delivered_datagrams}

-- the units of a service that has a PID
pub units_on_pid : (service : ServiceFields) (pid : ℕ) (records : List Record) → pid_of service.kind ≡ Some pid
    → units_of service records ≡ units_on (form_of_kind service.kind) (Some pid) records
units_on_pid service pid records on = ap (λ (p : Option ℕ). units_on (form_of_kind service.kind) p records) on

-- a list with others after it
abbrev pub IsPrefix : {X : Type 0} → List X → List X → Type 0
IsPrefix {X} front whole = (added : List X) × (whole ≡ front ++ added)

pub front_through : {X : Type 0} (xs ys zs : List X) → IsPrefix xs ys → IsPrefix ys zs → IsPrefix xs zs
front_through xs ys zs one other =
    (one.0 ++ other.0, other.1 ∙ ap (λ t. t ++ other.0) one.1 ∙ append_assoc xs one.0 other.0)

-- what comes after a front
pub rest_is : {X : Type 0} (front whole : List X) → IsPrefix front whole → whole ≡ front ++ drop (length front) whole
rest_is front whole is =
    is.1 ∙ ap (λ t. front ++ t) (sym (ap (drop (length front)) is.1 ∙ drop_at front is.0 (length front) refl))

front_map : {X Y : Type 0} (f : X → Y) (xs ys : List X) → IsPrefix xs ys → IsPrefix (map f xs) (map f ys)
front_map f xs ys front = (map f front.0, ap (map f) front.1 ∙ map-append f xs front.0)

pub front_flat : {X Y : Type 0} (f : X → List Y) (xs ys : List X) → IsPrefix xs ys → IsPrefix (flat_map f xs) (flat_map f ys)
front_flat f xs ys front = (flat_map f front.0, ap (flat_map f) front.1 ∙ flat_map-append f xs front.0)

-- all units of a service are of a lawful kind
pub kind_lawful : (kind : KindFields) → IsLawful (form_of_kind kind)
kind_lawful (ule pid address packing) = sndu_lawful
kind_lawful (mpe pid) = section_lawful
kind_lawful (fec pid rows parity window) = section_lawful
kind_lawful (gse isi address) = section_lawful

-- more packets, more events
events_front : (form : UnitForm) → IsLawful form → (xs ys : List Arrival) → IsPrefix (events_of form xs) (events_of form (xs ++ ys))
events_front form lawful xs [] = ([], ap (events_of form) (append-nil xs) ∙ sym (append-nil (events_of form xs)))
events_front form lawful xs (y ∷ ys) =
    let rest = events_front form lawful (xs ++ y ∷ []) ys in
    front_through (events_of form xs) (events_of form (xs ++ y ∷ [])) (events_of form (xs ++ y ∷ ys))
    (_, events_more form lawful no_packet xs y)
    (rest.0, ap (events_of form) (sym (append_assoc xs (y ∷ []) ys)) ∙ rest.1)

-- the units among events
abbrev pub units_in : List Event → List (List ℕ)
units_in events = map (λ (timed : ℕ × List ℕ). timed.1) (flat_map unit_of_event events)

-- the accepted units are those among the events
pub units_are : (form : UnitForm) (pid : ℕ) (records : List Record) → units_on form (Some pid) records ≡ units_in (events_of form (received_packets pid records))
units_are form pid records =
    sym (ap (map (λ (timed : ℕ × List ℕ). timed.1)) (of_events form (received_packets pid records))
    ∙ map-map (λ (timed : ℕ × List ℕ). timed.1) (λ (x : PlacedUnit). (x.moment, x.unit)) (accepted_units form pid records))

-- more records, more events
pub all_events_front : (form : UnitForm) → IsLawful form → (pid : ℕ) (records : List Record) (r : Record)
    → IsPrefix (events_of form (received_packets pid records)) (events_of form (received_packets pid (records ++ r ∷ [])))
all_events_front form lawful pid records r =
    let before : List Arrival = received_packets pid records in
    let more : List Arrival = received_after (last_bytes None before) (arrival_of pid (length records) r.moment r.bytes) in
    let events = events_front form lawful before more in
    (events.0, ap (events_of form) (one_more pid records r).received ∙ events.1)

-- more records, more units
pub units_front : (form : UnitForm) → IsLawful form → (pid : Option ℕ) (records : List Record) (r : Record) → IsPrefix (units_on form pid records) (units_on form pid (records ++ r ∷ []))
units_front form lawful None records r = ([], refl)
units_front form lawful (Some pid) records r =
    let units = front_map (λ (timed : ℕ × List ℕ). timed.1) (flat_map unit_of_event (events_of form (received_packets pid records)))
    (flat_map unit_of_event (events_of form (received_packets pid (records ++ r ∷ []))))
    (front_flat unit_of_event (events_of form (received_packets pid records)) (events_of form (received_packets pid (records ++ r ∷ [])))
    (all_events_front form lawful pid records r)) in
    (units.0, units_are form pid (records ++ r ∷ []) ∙ units.1 ∙ ap (λ t. t ++ units.0) (sym (units_are form pid records)))

-- more records, more datagrams
pub delivered_front : (service : ServiceFields) (records : List Record) (r : Record) → IsPrefix (delivered_datagrams service records) (delivered_datagrams service (records ++ r ∷ []))
delivered_front service records r =
    front_flat (delivered_by_unit service) (units_of service records) (units_of service (records ++ r ∷ []))
    (units_front (form_of_kind service.kind) (kind_lawful service.kind) (pid_of service.kind) records r)

-- nothing is delivered of nothing
pub no_units_of_nothing : (form : UnitForm) (pid : Option ℕ) → units_on form pid [] ≡ []
no_units_of_nothing form None = refl
no_units_of_nothing form (Some pid) = refl

pub nothing_delivered : (service : ServiceFields) → delivered_datagrams service [] ≡ []
nothing_delivered service = ap (flat_map (delivered_by_unit service)) (no_units_of_nothing (form_of_kind service.kind) (pid_of service.kind))

-- A record that is no packet of the PID.

none_arrives : (pid place : ℕ) (moment : Option ℕ) (bytes : List ℕ) → (is_some moment && is_of pid bytes) ≡ false → arrival_of pid place moment bytes ≡ []
none_arrives pid place None bytes off = refl
none_arrives pid place (Some moment) bytes off = ap (λ (b : Bool). cond {A = List Arrival} b (record { place = place; moment = moment; bytes = bytes } ∷ []) []) off

pub same_arrivals : (pid : ℕ) (records : List Record) (r : Record) → is_on pid r ≡ false → arrivals pid (records ++ r ∷ []) ≡ arrivals pid records
same_arrivals pid records r off =
    (one_more pid records r).arrived
    ∙ ap (λ (t : List Arrival). arrivals pid records ++ t) (none_arrives pid (length records) r.moment r.bytes off)
    ∙ append-nil (arrivals pid records)

pub same_packets : (pid : ℕ) (records : List Record) (r : Record) → is_on pid r ≡ false → received_packets pid (records ++ r ∷ []) ≡ received_packets pid records
same_packets pid records r off = ap (received_after None) (same_arrivals pid records r off)

-- a service on this PID, or on none
pub same_units : (form : UnitForm) (on : Option ℕ) (pid : ℕ) → (on ≡ Some pid) ⊎ (on ≡ None) → (records : List Record) (r : Record) → is_on pid r ≡ false
    → units_on form on (records ++ r ∷ []) ≡ units_on form on records
same_units form on pid (inl is) records r off =
    ap (λ (p : Option ℕ). units_on form p (records ++ r ∷ [])) is
    ∙ ap (λ (t : List Arrival). map (λ (a : PlacedUnit). a.unit) (accepted_in form t)) (same_packets pid records r off)
    ∙ sym (ap (λ (p : Option ℕ). units_on form p records) is)
same_units form on pid (inr is) records r off =
    ap (λ (p : Option ℕ). units_on form p (records ++ r ∷ [])) is ∙ sym (ap (λ (p : Option ℕ). units_on form p records) is)

pub same_datagrams : (service : ServiceFields) (pid : ℕ) → (pid_of service.kind ≡ Some pid) ⊎ (pid_of service.kind ≡ None) → (records : List Record) (r : Record)
    → is_on pid r ≡ false → delivered_datagrams service (records ++ r ∷ []) ≡ delivered_datagrams service records
same_datagrams service pid on records r off =
    ap (flat_map (delivered_by_unit service)) (same_units (form_of_kind service.kind) (pid_of service.kind) pid on records r off)

-- a blank record is a packet of no PID
pub blank_is_off : (pid : ℕ) → is_on pid no_record ≡ false
blank_is_off pid = refl
