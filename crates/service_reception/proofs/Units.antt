-- The units among events, and what a service makes of them.
use Rattle.std.proofs.Common.{◌≡◌, ℕ, List, [], ◌∷◌, map, flat_map, refl, ap, sym, ◌∙◌, Option, Some}
use Rattle.ts_spec.specs.Form.{UnitForm}
use Rattle.ts_spec.specs.Recording.{Record}
use Rattle.ts_spec.specs.Received.{received_packets}
use Rattle.ts_spec.specs.Reassembly.{PlacedUnit, accepted_in}
use Rattle.ts_spec.specs.Events.{events_of}
use Rattle.reassembly_law.proofs.Units.{of_events}
use Rattle.plan_spec.specs.Plan.{ServiceFields, pid_of}
use Rattle.stream_spec.specs.Services.{form_of_kind}
use Rattle.reception_spec.specs.Units.{delivered_by_unit}
use Rattle.reception_spec.specs.Numbers.{numbers_if_on, pid_numbers, service_pid_numbers, units_on, units_of}
use Rattle.reception_spec.specs.Delivered.{delivered_datagrams}
use Rattle.service_reception.specs.Counting.{units_in}
use Rattle.service_reception.specs.Taking.{delivered_of}

units_alone : (units : List PlacedUnit) → map (λ (pair : ℕ × List ℕ). pair.1) (map (λ (a : PlacedUnit). (a.moment, a.unit)) units) ≡ map (λ (a : PlacedUnit). a.unit) units
units_alone [] = refl
units_alone (a ∷ units) = ap (λ (t : List (List ℕ)). a.unit ∷ t) (units_alone units)

-- the units among the events of the packets received are the accepted ones
pub units_accepted : (form : UnitForm) (pid : ℕ) (records : List Record) → units_in (events_of form (received_packets pid records)) ≡ units_on form (Some pid) records
units_accepted form pid records =
    ap (map (λ (pair : ℕ × List ℕ). pair.1)) (of_events form (received_packets pid records))
    ∙ units_alone (accepted_in form (received_packets pid records))

-- of a service on a PID
pub units_of_events : (form : UnitForm) (pid : ℕ) (it : ServiceFields) (records : List Record) → form_of_kind it.kind ≡ form → pid_of it.kind ≡ Some pid
    → units_of it records ≡ units_in (events_of form (received_packets pid records))
units_of_events form pid it records form_is pid_is =
    ap (λ (f : UnitForm). units_on f (pid_of it.kind) records) form_is
    ∙ ap (λ (p : Option ℕ). units_on form p records) pid_is
    ∙ sym (units_accepted form pid records)

pub delivered_of_events : (form : UnitForm) (pid : ℕ) (it : ServiceFields) (records : List Record) → form_of_kind it.kind ≡ form → pid_of it.kind ≡ Some pid
    → delivered_datagrams it records ≡ delivered_of it (events_of form (received_packets pid records))
delivered_of_events form pid it records form_is pid_is = ap (flat_map (delivered_by_unit it)) (units_of_events form pid it records form_is pid_is)

pub numbers_of_pid : (form : UnitForm) (pid : ℕ) (it : ServiceFields) (records : List Record) → form_of_kind it.kind ≡ form → pid_of it.kind ≡ Some pid
    → service_pid_numbers it records ≡ pid_numbers form pid records
numbers_of_pid form pid it records form_is pid_is =
    ap (λ (f : UnitForm). numbers_if_on f (pid_of it.kind) records) form_is ∙ ap (λ (p : Option ℕ). numbers_if_on form p records) pid_is
