-- From packets to records: what a record gives of a service comes of units that end in its packet.
use Rattle.std.proofs.Common.{◌≡◌, ◌⊎◌, inl, inr, ℕ, zero, suc, Bool, true, false, cond, List, [], ◌∷◌, ◌++◌, length, map, flat_map, get_or, All, Option, Some, None, refl, ap, sym, subst, ◌∙◌, arith, append_assoc}
use Rattle.std.proofs.lemmas.List.{append-nil, map-append}
use Rattle.std.proofs.lemmas.List.Elements.{All-nil, All-cons}
use Rattle.ts_spec.specs.Form.{UnitForm}
use Rattle.ts_spec.specs.Packet.{fields_of}
use Rattle.ts_spec.specs.Recording.{RecordingForm, Record}
use Rattle.ts_spec.specs.Received.{Arrival, packet_of, is_of, arrival_of, repeats, received_after, received_packets}
use Rattle.ts_spec.specs.Reassembly.{accepted_in}
use Rattle.ts_spec.specs.Events.{events_of}
use Rattle.reassembly_law.specs.UnderWay.{unit_of_event}
use Rattle.reassembly_law.specs.Records.{OneRecordMore, last_bytes}
use Rattle.plan_spec.specs.Plan.{KindFields, ule, mpe, fec, gse, ServiceFields, PlanFields, pid_of}
use Rattle.plan_spec.specs.Changes.{no_service, with_pid}
use Rattle.stream_spec.specs.Services.{kind_at, form_of_kind}
use Rattle.stream_law.specs.Words.{is_single}
use Rattle.reception_spec.specs.Units.{delivered_by_unit}
use Rattle.reception_spec.specs.Numbers.{units_of}
use Rattle.reception_spec.specs.Spans.{span_of}
use Rattle.reception_spec.specs.Frames.{frames_received}
use Rattle.reception_spec.specs.Delivered.{delivered_datagrams, told_by, service_on, takes_no_more}
use Rattle.reception_law.specs.Words.{added_by, added_on, closed_by, closed_on}
use Rattle.reception_law.specs.InForce.{given_on, closed_by_move}
use Rattle.last_byte_law.specs.Ends.{EndsIn, timed_units, AddsUnits, GivesEnding}

-- what one record more gives on a PID is nothing, or its packet
new_packets : (pid place : ℕ) (before : Option (List ℕ)) (o : Option ℕ) (bytes : List ℕ)
    → (received_after before (arrival_of pid place o bytes) ≡ []) ⊎ ((a : Arrival) × (received_after before (arrival_of pid place o bytes) ≡ a ∷ []) × (a.bytes ≡ bytes))
new_packets pid place before None bytes = inl refl
new_packets pid place before (Some moment) bytes = by_pid (is_of pid bytes)
  where
    this : Arrival
    this = record { place = place; moment = moment; bytes = bytes }

    by_pid : (t : Bool) → (received_after before (cond {A = List Arrival} t (this ∷ []) []) ≡ [])
        ⊎ ((a : Arrival) × (received_after before (cond {A = List Arrival} t (this ∷ []) []) ≡ a ∷ []) × (a.bytes ≡ bytes))
    by_pid false = inl refl
    by_pid true = by_copy (repeats before bytes)
      where
        by_copy : (c : Bool) → (cond {A = List Arrival} c [] (this ∷ []) ++ [] ≡ []) ⊎ ((a : Arrival) × (cond {A = List Arrival} c [] (this ∷ []) ++ [] ≡ a ∷ []) × (a.bytes ≡ bytes))
        by_copy true = inl refl
        by_copy false = inr (this, refl, refl)

seconds_end : (payload : List ℕ) (units : List (ℕ × List ℕ)) → All (λ (u : ℕ × List ℕ). EndsIn payload u.1) units → All (EndsIn payload) (map (λ (u : ℕ × List ℕ). u.1) units)
seconds_end payload [] all = All-nil (EndsIn payload)
seconds_end payload (u ∷ units) all =
    All-cons (EndsIn payload) u.1 (map (λ (v : ℕ × List ℕ). v.1) units) (all 0 (0, []) (omega arith))
    (seconds_end payload units (λ k d less. all (suc k) d (omega (arith, less))))

flat-append : {X Y : Type 0} (f : X → List Y) (xs ys : List X) → flat_map f (xs ++ ys) ≡ flat_map f xs ++ flat_map f ys
flat-append f [] ys = refl
flat-append f (x ∷ xs) ys = ap (λ (t : List _). f x ++ t) (flat-append f xs ys) ∙ sym (append_assoc (f x) (flat_map f xs) (flat_map f ys))

-- the kind of a service by its place
kind_by_place : (services : List ServiceFields) (k : ℕ) → (get_or services k no_service).kind ≡ get_or (map (λ (s : ServiceFields). s.kind) services) k (mpe 0)
kind_by_place [] k = refl
kind_by_place (s ∷ services) zero = refl
kind_by_place (s ∷ services) (suc k) = kind_by_place services k

on_pid : (kind : KindFields) (pid : ℕ) → is_single kind ≡ true → pid_of (with_pid kind pid) ≡ Some pid
on_pid (ule old address packing) pid is = refl
on_pid (mpe old) pid is = refl
on_pid (fec old rows parity window) pid is = absurd (cc)
on_pid (gse isi address) pid is = absurd (cc)

no_frames : (form : RecordingForm) (kind : KindFields) (pid : ℕ) → is_single kind ≡ true → (records : List Record) → frames_received form (with_pid kind pid) records ≡ []
no_frames form (ule old address packing) pid is records = refl
no_frames form (mpe old) pid is records = refl
no_frames form (fec old rows parity window) pid is records = absurd (cc)
no_frames form (gse isi address) pid is records = absurd (cc)

module _
    (step : (kind : KindFields) (ps : List Arrival) (q : Arrival) → AddsUnits (form_of_kind kind) ps q)
    (units_by : (kind : KindFields) (ps : List Arrival) → flat_map unit_of_event (events_of (form_of_kind kind) ps) ≡ timed_units (accepted_in (form_of_kind kind) ps))
    (record_step : (pid : ℕ) (records : List Record) (r : Record) → OneRecordMore pid records r)
    (of_events : (service : ServiceFields) (pid : ℕ) (records : List Record) → pid_of service.kind ≡ Some pid
    → units_of service records ≡ map (λ (timed : ℕ × List ℕ). timed.1) (flat_map unit_of_event (events_of (form_of_kind service.kind) (received_packets pid records))))
    (told : (ended : Bool) (form : RecordingForm) (service : ServiceFields) (records : List Record) → frames_received form service.kind records ≡ []
    → told_by ended form service records ≡ delivered_datagrams service records)
    (added : (form : RecordingForm) (service : ServiceFields) (records : List Record) (r : Record) (more : List (List ℕ))
    → told_by false form service (records ++ r ∷ []) ≡ told_by false form service records ++ more → added_by form service records r ≡ more)
    (closed : (form : RecordingForm) (service : ServiceFields) (records : List Record) → frames_received form service.kind records ≡ [] → closed_by form service records ≡ [])
  where
    record NewUnits (service : ServiceFields) (records : List Record) (r : Record) : Type 0 where
      units : List (List ℕ)
      more : units_of service (records ++ r ∷ []) ≡ units_of service records ++ units
      ends : All (EndsIn (fields_of r.bytes).payload) units

    accepted_units : (service : ServiceFields) (pid : ℕ) (records : List Record) → pid_of service.kind ≡ Some pid
        → units_of service records ≡ map (λ (timed : ℕ × List ℕ). timed.1) (timed_units (accepted_in (form_of_kind service.kind) (received_packets pid records)))
    accepted_units service pid records on =
        of_events service pid records on ∙ ap (map (λ (timed : ℕ × List ℕ). timed.1)) (units_by service.kind (received_packets pid records))

    new_units : (service : ServiceFields) (pid : ℕ) (records : List Record) (r : Record) → pid_of service.kind ≡ Some pid → NewUnits service records r
    new_units service pid records r on = by_new (new_packets pid (length records) (last_bytes None (received_packets pid records)) r.moment r.bytes)
      where
        form : UnitForm
        form = form_of_kind service.kind

        packets : List Arrival
        packets = received_packets pid records

        seconds : List (ℕ × List ℕ) → List (List ℕ)
        seconds xs = map (λ (timed : ℕ × List ℕ). timed.1) xs

        news : List Arrival
        news = received_after (last_bytes None (received_packets pid records)) (arrival_of pid (length records) r.moment r.bytes)

        by_new : (news ≡ []) ⊎ ((a : Arrival) × (news ≡ a ∷ []) × (a.bytes ≡ r.bytes)) → NewUnits service records r
        by_new (inl none) =
            let same : received_packets pid (records ++ r ∷ []) ≡ packets = (record_step pid records r).received ∙ ap (λ (t : List Arrival). packets ++ t) none ∙ append-nil packets in
            record {
              units = [];
              more =
                  accepted_units service pid (records ++ r ∷ []) on ∙ ap (λ (ps : List Arrival). seconds (timed_units (accepted_in form ps))) same
                  ∙ sym (accepted_units service pid records on) ∙ sym (append-nil (units_of service records));
              ends = All-nil (EndsIn (fields_of r.bytes).payload);
            }
        by_new (inr it) =
            let a : Arrival = it.0 in
            let adds : AddsUnits form packets a = step service.kind packets a in
            let then : received_packets pid (records ++ r ∷ []) ≡ packets ++ a ∷ [] = (record_step pid records r).received ∙ ap (λ (t : List Arrival). packets ++ t) it.1 in
            record {
              units = seconds adds.units;
              more =
                  accepted_units service pid (records ++ r ∷ []) on
                  ∙ ap (λ (ps : List Arrival). seconds (timed_units (accepted_in form ps))) then
                  ∙ ap seconds adds.added
                  ∙ map-append (λ (timed : ℕ × List ℕ). timed.1) (timed_units (accepted_in form packets)) adds.units
                  ∙ ap (λ (t : List (List ℕ)). t ++ seconds adds.units) (sym (accepted_units service pid records on));
              ends = subst (λ (b : List ℕ). All (EndsIn (fields_of b).payload) (seconds adds.units)) it.2 (seconds_end (packet_of a).payload adds.units adds.ends);
            }

    pub gives_ending : (plan : PlanFields) (k pid : ℕ) (records : List Record) (r : Record) → is_single (kind_at plan k) ≡ true
        → GivesEnding (service_on plan k pid) (span_of plan k pid records) r (given_on plan k pid records r)
    gives_ending plan k pid records r is =
        let single : is_single (get_or plan.services k no_service).kind ≡ true = ap is_single (kind_by_place plan.services k) ∙ is in
        let service : ServiceFields = service_on plan k pid in
        let span : List Record = span_of plan k pid records in
        let blank : (some : List Record) → frames_received plan.recording service.kind some ≡ [] = no_frames plan.recording (get_or plan.services k no_service).kind pid single in
        let new : NewUnits service span r = new_units service pid span r (on_pid (get_or plan.services k no_service).kind pid single) in
        let f : List ℕ → List (List ℕ) = delivered_by_unit service in
        let adds : added_on plan k pid records r ≡ flat_map f new.units =
        added plan.recording service span r (flat_map f new.units)
        (told false plan.recording service (span ++ r ∷ []) (blank (span ++ r ∷ []))
        ∙ ap (flat_map f) new.more ∙ flat-append f (units_of service span) new.units
        ∙ ap (λ (t : List (List ℕ)). t ++ flat_map f new.units) (sym (told false plan.recording service span (blank span)))) in
        record {
          units = new.units;
          added = new.more;
          ends = new.ends;
          given_is =
              ap (λ (t : List (List ℕ)). added_on plan k pid records r ++ t) (nothing_closed blank)
              ∙ append-nil (added_on plan k pid records r) ∙ adds;
        }
      where
        nothing_closed : ((some : List Record) → frames_received plan.recording (service_on plan k pid).kind some ≡ []) → closed_by_move plan k pid records r ≡ []
        nothing_closed blank = by_test (takes_no_more plan (records ++ r ∷ []) k pid)
          where
            by_test : (t : Bool) → cond t (closed_on plan k pid (records ++ r ∷ [])) [] ≡ []
            by_test true = closed plan.recording (service_on plan k pid) (span_of plan k pid (records ++ r ∷ [])) (blank (span_of plan k pid (records ++ r ∷ [])))
            by_test false = refl
