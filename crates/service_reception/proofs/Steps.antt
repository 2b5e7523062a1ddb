-- The events of a packet, taken one after another.
use Rattle.std.proofs.Common.{◌≡◌, ℕ, true, ◌^◌, ◌<◌, List, [], ◌∷◌, ◌++◌, length, refl, ap, sym, ◌∙◌, subst, arith, append_assoc, length-append, flat_map, Result, Ok, Err, OnOk, OnErr, Bor}
use Rattle.std.specs.Prelude.{is_ok}
use Rattle.std.proofs.lemmas.List.{append-nil}
use Rattle.wire_spec.specs.Causes.{HasCause}
use Rattle.outlet_spec.specs.Pairs.{pairs_of, Delivers, DeliversFront}
use Rattle.outlet_spec.proofs.Pairs.{pairs_of-append, delivers_none}
use Rattle.outlet_spec.proofs.Going.{told_both, failed_either, caused_both, caused_none, stays_both, stays_none}
use Rattle.ts_spec.specs.Form.{UnitForm, IsUnit, IsLawful}
use Rattle.ts_spec.specs.Events.{Event, unit_event}
use Rattle.plan_spec.specs.Plan.{KindFields, ServiceFields}
use Rattle.reception_spec.specs.Numbers.{PidNumbers, UnitNumbers, unit_numbers}
use Rattle.unit_stream.specs.Telling.{HasHeard}
use Rattle.reception_spec.specs.Units.{delivered_by_unit}
use Rattle.unit_stream.specs.declared.reading.JoinEvent.{JoinEvent}
use Rattle.unit_stream.specs.declared.reading.JoinEvent.TheVariants.{Unit, BadCheck, Delimit, BadLength}
use Rattle.unit_stream.specs.States.{event_in}
use Rattle.service_counts.specs.declared.counts.ServiceCounts.{ServiceCounts}
use Rattle.service_reception.specs.Counting.{on_pid, of_units, counted_event, counted_units, units_in}
use Rattle.service_reception.specs.Services.{IsServed}
use Rattle.service_reception.specs.Carried.{TellsHandling, handling_numbers, handling_datagrams}
use Rattle.service_reception.specs.declared.handling.Handling.{Handling}
use Rattle.service_reception.specs.Taking.{IsProper, CountsEvent, HasCounted, Hearing, HearsEvent, HasHeardAll, delivered_of}
use Rattle.service_reception.proofs.Counted.{event_counted, units_with_event, delivered_of-append}
use Rattle.service_reception.proofs.Proper.{AllProper}

-- one event more is counted
event_taken : (it : ServiceFields) (links : PidNumbers) (given : List Event) (event : Event) (before after : ServiceCounts) → length (given ++ event ∷ []) < 2 ^ 64
    → CountsEvent it event before after → HasCounted it links before given → HasCounted it links after (given ++ event ∷ [])
event_taken it links given event before after few counts counted = record {
  on_pid_are = counts.on_pid_are ∙ ap (λ (n : PidNumbers). counted_event n event) counted.on_pid_are ∙ event_counted links given event few;
  of_units_are = counts.of_units_are ∙ ap (λ (n : UnitNumbers). counted_units n (unit_numbers it (units_in (event ∷ [])))) counted.of_units_are ∙ units_with_event it given event few;
}

-- the pairs of one event, and of others after it
pairs_then : (it : ServiceFields) (event : Event) (events : List Event) (number : ℕ)
    → pairs_of number (delivered_of it (event ∷ events)) ≡ pairs_of number (delivered_of it (event ∷ [])) ++ pairs_of number (delivered_of it events)
pairs_then it event events number =
    ap (pairs_of number) (delivered_of-append it (event ∷ []) events) ∙ pairs_of-append number (delivered_of it (event ∷ [])) (delivered_of it events)

module _ {T A E : Type 0} (StandsFor : T → List (ℕ × List ℕ) → Type 0) (Refused : T → ℕ → List ℕ → Type 0) (services faults : T → ℕ) where
  -- no event
  none_heard : (it : ServiceFields) (one : Hearing T A E) → HasHeardAll StandsFor Refused it [] one one
  none_heard it one = record {
    counted = λ links given few counted. subst (HasCounted it links one.counts) (sym (append-nil given)) counted;
    told = told_of one.went;
    failed = failed_of one.went;
    stays = stays_none one.outlet one.went;
  }
    where
      told_of : (went : Result A E) → OnOk went (OnOk went (Delivers (StandsFor one.outlet) (StandsFor one.outlet) (pairs_of one.number (delivered_of it []))))
      told_of (Ok x) = delivers_none (StandsFor one.outlet)
      told_of (Err x) = tt

      failed_of : (went : Result A E) → OnOk went (OnErr went (DeliversFront (StandsFor one.outlet) (StandsFor one.outlet) (Refused one.outlet) (pairs_of one.number (delivered_of it []))))
      failed_of (Ok x) = tt
      failed_of (Err x) = tt

  -- one event, and others after it
  one_then : (form : UnitForm) (IsOfKind : KindFields → Type 0) (it : ServiceFields) (event : Event) (events : List Event) (old mid new : Hearing T A E)
      → IsServed IsOfKind old.filter it → IsProper form event → HearsEvent StandsFor Refused services faults form IsOfKind event old mid
      → HasHeardAll StandsFor Refused it events mid new → HasHeardAll StandsFor Refused it (event ∷ events) old new
  one_then form IsOfKind it event events old mid new served proper one then =
      let told = subst (λ (n : ℕ). OnOk mid.went (OnOk new.went (Delivers (StandsFor mid.outlet) (StandsFor new.outlet) (pairs_of n (delivered_of it events))))) one.number_is then.told in
      let failed = subst (λ (n : ℕ). OnOk mid.went (OnErr new.went (DeliversFront (StandsFor mid.outlet) (StandsFor new.outlet) (Refused new.outlet) (pairs_of n (delivered_of it events))))) one.number_is then.failed in
      record {
        counted = λ links given few counted.
            let same : (given ++ event ∷ []) ++ events ≡ given ++ event ∷ events = append_assoc given (event ∷ []) events in
            let fewer : length (given ++ event ∷ []) < 2 ^ 64 = omega (arith, few, ap (λ (t : List Event). length t) same, length-append (given ++ event ∷ []) events) in
            subst (HasCounted it links new.counts) same
            (then.counted links (given ++ event ∷ []) (subst (λ (t : List Event). length t < 2 ^ 64) (sym same) few)
            (event_taken it links given event old.counts mid.counts fewer (one.counted it served proper) counted));
        told = told_both StandsFor Refused (pairs_of old.number (delivered_of it (event ∷ []))) (pairs_of old.number (delivered_of it events)) (pairs_of old.number (delivered_of it (event ∷ events))) (pairs_then it event events old.number)
            old.outlet mid.outlet new.outlet old.went mid.went new.went (one.told it served proper) told then.stays;
        failed = failed_either StandsFor Refused (pairs_of old.number (delivered_of it (event ∷ []))) (pairs_of old.number (delivered_of it events)) (pairs_of old.number (delivered_of it (event ∷ events))) (pairs_then it event events old.number)
            old.outlet mid.outlet new.outlet old.went mid.went new.went (one.told it served proper) (one.failed it served proper) failed then.stays;
        stays = stays_both old.outlet mid.outlet new.outlet old.went mid.went new.went one.stays then.stays;
      }

  -- A listener that takes each event so takes all of them so.
  module _ {L : Type 0} (Hears : L → Event → L → Type 0) (view : L → Hearing T A E) (form : UnitForm) (lawful : IsLawful form) (IsOfKind : KindFields → Type 0)
      (each : (old new : L) (event : Event) → Hears old event new → HearsEvent StandsFor Refused services faults form IsOfKind event (view old) (view new)) where
    pub all_heard : (it : ServiceFields) (events : List Event) (old new : L) → HasHeard Hears old events new → IsServed IsOfKind (view old).filter it → AllProper form lawful events
        → HasHeardAll StandsFor Refused it events (view old) (view new)
    all_heard it [] old new heard served proper = subst (λ (l : L). HasHeardAll StandsFor Refused it [] (view old) (view l)) (sym heard) (none_heard it (view old))
    all_heard it (event ∷ events) old new (mid, (one, rest)) served proper =
        let hears = each old mid event one in
        one_then form IsOfKind it event events (view old) (view mid) (view new) served proper.0 hears
        (all_heard it events mid new rest (subst (λ (f : List (List ℕ)). IsServed IsOfKind f it) (sym hears.filter_is) served) proper.1)

    -- whatever the service
    pub all_caused : (events : List Event) (old new : L) → HasHeard Hears old events new
        → OnOk (view old).went (HasCause (faults (view old).outlet) (faults (view new).outlet) (view new).went)
        × OnErr (view old).went (((view new).went ≡ (view old).went) × ((view new).outlet ≡ (view old).outlet))
    all_caused [] old new heard =
        subst (λ (l : L). OnOk (view old).went (HasCause (faults (view old).outlet) (faults (view l).outlet) (view l).went)
        × OnErr (view old).went (((view l).went ≡ (view old).went) × ((view l).outlet ≡ (view old).outlet))) (sym heard)
        (caused_none faults (view old).outlet (view old).went, stays_none (view old).outlet (view old).went)
    all_caused (event ∷ events) old new (mid, (one, rest)) =
        let hears = each old mid event one in
        let then = all_caused events mid new rest in (
          caused_both faults (view old).outlet (view mid).outlet (view new).outlet (view old).went (view mid).went (view new).went hears.cause then.0 then.1,
          stays_both (view old).outlet (view mid).outlet (view new).outlet (view old).went (view mid).went (view new).went hears.stays then.1,
        )

-- what no event changes, events do not change
pub heard_keeps : {L X : Type 0} (Hears : L → Event → L → Type 0) (part : L → X) → ((old new : L) (event : Event) → Hears old event new → part new ≡ part old)
    → (events : List Event) (old new : L) → HasHeard Hears old events new → part new ≡ part old
heard_keeps Hears part each [] old new heard = ap part heard
heard_keeps Hears part each (event ∷ events) old new (mid, (one, rest)) = heard_keeps Hears part each events mid new rest ∙ each old mid event one

-- an event of no unit is counted alone
pub no_unit_heard : {T A E : Type 0} (StandsFor : T → List (ℕ × List ℕ) → Type 0) (Refused : T → ℕ → List ℕ → Type 0) (services faults : T → ℕ) (form : UnitForm) (IsOfKind : KindFields → Type 0)
    (event : Event) (before after : ServiceCounts) (filter : List (List ℕ)) (number : ℕ) (outlet : T) (went : Result A E)
    → units_in (event ∷ []) ≡ [] → on_pid after ≡ counted_event (on_pid before) event → of_units after ≡ of_units before
    → HearsEvent StandsFor Refused services faults form IsOfKind event
    (record { counts = before; filter = filter; number = number; outlet = outlet; went = went })
    (record { counts = after; filter = filter; number = number; outlet = outlet; went = went })
no_unit_heard {T} {A} {E} StandsFor Refused services faults form IsOfKind event before after filter number outlet went none on_pid_are of_units_are = record {
  filter_is = refl;
  number_is = refl;
  services_are = refl;
  counted = λ it served proper. record {
    on_pid_are = on_pid_are;
    of_units_are = of_units_are ∙ ap (λ (us : List (List ℕ)). counted_units (of_units before) (unit_numbers it us)) (sym none);
  };
  told = λ it served proper. told_of it went;
  failed = λ it served proper. failed_of it went;
  cause = caused_none faults outlet went;
  stays = stays_none outlet went;
}
  where
    told_of : (it : ServiceFields) (w : Result A E) → OnOk w (OnOk w (Delivers (StandsFor outlet) (StandsFor outlet) (pairs_of number (delivered_of it (event ∷ [])))))
    told_of it (Ok x) = subst (λ (us : List (List ℕ)). Delivers (StandsFor outlet) (StandsFor outlet) (pairs_of number (flat_map (delivered_by_unit it) us))) (sym none) (delivers_none (StandsFor outlet))
    told_of it (Err x) = tt

    failed_of : (it : ServiceFields) (w : Result A E) → OnOk w (OnErr w (DeliversFront (StandsFor outlet) (StandsFor outlet) (Refused outlet) (pairs_of number (delivered_of it (event ∷ [])))))
    failed_of it (Ok x) = tt
    failed_of it (Err x) = tt

pub no_unit_in : (event : JoinEvent) → ((moment : ℕ) (bytes : Bor (List ℕ)) → event ≡ Unit moment bytes → ⊥) → units_in (event_in event ∷ []) ≡ []
no_unit_in (Unit moment bytes) other = absurd (other moment bytes refl)
no_unit_in BadCheck other = refl
no_unit_in Delimit other = refl
no_unit_in BadLength other = refl

-- an event of a unit: it is counted, and its datagram delivered where none was refused before
pub unit_heard : {T A E : Type 0} (StandsFor : T → List (ℕ × List ℕ) → Type 0) (Refused : T → ℕ → List ℕ → Type 0) (services faults : T → ℕ) (form : UnitForm) (IsOfKind : KindFields → Type 0)
    (event : Event) (moment : ℕ) (unit : List ℕ) (handled : Handling) (before after : ServiceCounts) (filter : List (List ℕ)) (number : ℕ) (a b : T) (was now : Result A E)
    → event ≡ unit_event moment unit → is_ok was ≡ true
    → ((it : ServiceFields) → IsServed IsOfKind filter it → IsUnit form unit → TellsHandling it unit handled)
    → on_pid after ≡ counted_event (on_pid before) event → of_units after ≡ counted_units (of_units before) (handling_numbers handled)
    → OnOk now (Delivers (StandsFor a) (StandsFor b) (pairs_of number (handling_datagrams handled)))
    → OnErr now (DeliversFront (StandsFor a) (StandsFor b) (Refused b) (pairs_of number (handling_datagrams handled)))
    → services b ≡ services a → HasCause (faults a) (faults b) now
    → HearsEvent StandsFor Refused services faults form IsOfKind event
    (record { counts = before; filter = filter; number = number; outlet = a; went = was })
    (record { counts = after; filter = filter; number = number; outlet = b; went = now })
unit_heard StandsFor Refused services faults form IsOfKind event moment unit handled before after filter number a b (Err w) now is went tells on_pid_are of_units_are told failed kept cause = absurd (cc)
unit_heard StandsFor Refused services faults form IsOfKind event moment unit handled before after filter number a b (Ok w) now is went tells on_pid_are of_units_are told failed kept cause =
    let proper : IsProper form event → IsUnit form unit = λ p. subst (IsProper form) is p in
    let all : (it : ServiceFields) → TellsHandling it unit handled → delivered_of it (event ∷ []) ≡ handling_datagrams handled =
    λ it t. ap (λ (e : Event). delivered_of it (e ∷ [])) is ∙ append-nil (delivered_by_unit it unit) ∙ t.datagrams in
    record {
      filter_is = refl;
      number_is = refl;
      services_are = kept;
      counted = λ it served p. record {
        on_pid_are = on_pid_are;
        of_units_are = of_units_are
            ∙ ap (λ (n : UnitNumbers). counted_units (of_units before) n)
            (sym (ap (λ (e : Event). unit_numbers it (units_in (e ∷ []))) is ∙ (tells it served (proper p)).numbers));
      };
      told = λ it served p. subst (λ (ds : List (List ℕ)). OnOk now (Delivers (StandsFor a) (StandsFor b) (pairs_of number ds))) (sym (all it (tells it served (proper p)))) told;
      failed = λ it served p. subst (λ (ds : List (List ℕ)). OnErr now (DeliversFront (StandsFor a) (StandsFor b) (Refused b) (pairs_of number ds))) (sym (all it (tells it served (proper p)))) failed;
      cause = cause;
      stays = tt;
    }
