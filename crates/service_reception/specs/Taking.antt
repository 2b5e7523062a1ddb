-- The events of a packet, taken one after another.
use Rattle.std.specs.Prelude.{◌≡◌, ℕ, ◌^◌, ◌<◌, List, [], ◌∷◌, ◌++◌, length, flat_map, Result, OnOk, OnErr}
use Rattle.wire_spec.specs.Causes.{HasCause}
use Rattle.ts_spec.specs.Form.{UnitForm, IsUnit}
use Rattle.ts_spec.specs.Events.{Event, unit_event, bad_check_event, delimit_event, bad_length_event}
use Rattle.plan_spec.specs.Plan.{KindFields, ServiceFields}
use Rattle.reception_spec.specs.Units.{delivered_by_unit}
use Rattle.reception_spec.specs.Numbers.{PidNumbers, unit_numbers}
use Rattle.service_counts.specs.declared.counts.ServiceCounts.{ServiceCounts}
use Rattle.service_reception.specs.Counting.{on_pid, of_units, units_in, with_events, counted_event, counted_units}
use Rattle.service_reception.specs.Services.{IsServed}
use Rattle.outlet_spec.specs.Pairs.{pairs_of, Delivers, DeliversFront}

-- the delivered datagrams of the units among events
abbrev pub delivered_of : ServiceFields → List Event → List (List ℕ)
delivered_of service events = flat_map (delivered_by_unit service) (units_in events)

-- the unit of an event is one: of its own length, and its check holds
abbrev pub IsProper : UnitForm → Event → Type 0
IsProper form (unit_event moment unit) = IsUnit form unit
IsProper form bad_check_event = Unit {0}
IsProper form delimit_event = Unit {0}
IsProper form bad_length_event = Unit {0}

-- one event more is counted
pub record CountsEvent (service : ServiceFields) (event : Event) (old new : ServiceCounts) : Type 0 where
  pub on_pid_are : on_pid new ≡ counted_event (on_pid old) event
  pub of_units_are : of_units new ≡ counted_units (of_units old) (unit_numbers service (units_in (event ∷ [])))

-- these events are counted, with the numbers of the packets themselves
pub record HasCounted (service : ServiceFields) (links : PidNumbers) (counts : ServiceCounts) (events : List Event) : Type 0 where
  pub on_pid_are : on_pid counts ≡ with_events links events
  pub of_units_are : of_units counts ≡ unit_numbers service (units_in events)

-- what the listener of a service has: the counts, the service's filter and number, the outlet, and how its deliveries went
pub record Hearing (T A E : Type 0) : Type 0 where
  pub counts : ServiceCounts
  pub filter : List (List ℕ)
  pub number : ℕ
  pub outlet : T
  pub went : Result A E

-- The outlet's words stand before: what it stands for, what it refused, its services and its faults.
module _ {T A E : Type 0} (StandsFor : T → List (ℕ × List ℕ) → Type 0) (Refused : T → ℕ → List ℕ → Type 0) where
  -- some events were taken: they are counted, and their datagrams delivered up to the first that was refused
  pub record HasHeardAll (it : ServiceFields) (events : List Event) (old new : Hearing T A E) : Type 0 where
    pub counted : (links : PidNumbers) (given : List Event) → length (given ++ events) < 2 ^ 64 → HasCounted it links old.counts given → HasCounted it links new.counts (given ++ events)
    pub told : OnOk old.went (OnOk new.went (Delivers (StandsFor old.outlet) (StandsFor new.outlet) (pairs_of old.number (delivered_of it events))))
    pub failed : OnOk old.went (OnErr new.went (DeliversFront (StandsFor old.outlet) (StandsFor new.outlet) (Refused new.outlet) (pairs_of old.number (delivered_of it events))))
    pub stays : OnErr old.went ((new.went ≡ old.went) × (new.outlet ≡ old.outlet))

module _ {T A E : Type 0} (StandsFor : T → List (ℕ × List ℕ) → Type 0) (Refused : T → ℕ → List ℕ → Type 0) (services faults : T → ℕ) where
  -- one event more is taken: it is counted, and its datagrams are delivered where none was refused before
  pub record HearsEvent (form : UnitForm) (IsOfKind : KindFields → Type 0) (event : Event) (old new : Hearing T A E) : Type 0 where
    pub filter_is : new.filter ≡ old.filter
    pub number_is : new.number ≡ old.number
    pub services_are : services new.outlet ≡ services old.outlet
    pub counted : (it : ServiceFields) → IsServed IsOfKind old.filter it → IsProper form event → CountsEvent it event old.counts new.counts
    pub told : (it : ServiceFields) → IsServed IsOfKind old.filter it → IsProper form event
        → OnOk old.went (OnOk new.went (Delivers (StandsFor old.outlet) (StandsFor new.outlet) (pairs_of old.number (delivered_of it (event ∷ [])))))
    pub failed : (it : ServiceFields) → IsServed IsOfKind old.filter it → IsProper form event
        → OnOk old.went (OnErr new.went (DeliversFront (StandsFor old.outlet) (StandsFor new.outlet) (Refused new.outlet) (pairs_of old.number (delivered_of it (event ∷ [])))))
    pub cause : OnOk old.went (HasCause (faults old.outlet) (faults new.outlet) new.went)
    pub stays : OnErr old.went ((new.went ≡ old.went) × (new.outlet ≡ old.outlet))
