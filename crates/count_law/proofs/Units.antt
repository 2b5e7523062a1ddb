-- Each unit of a service of SNDUs or datagram_sections is counted once.
use Rattle.std.proofs.Common.{◌≡◌, ℕ, zero, suc, ◌+◌, Bool, true, false, not, ◌&&◌, cond, get_or, Option, None, Some, List, [], ◌∷◌, length, map, flat_map, fold, option_to_list, nat_lt, refl, sym, ap, ap₂, ◌∙◌, arith, length-append}
use Rattle.std.specs.Prelude.{count_by}
use Rattle.std.proofs.lemmas.List.{length-map}
use Rattle.std.proofs.lemmas.List.Sums.{sum_by-cons}
use Rattle.ts_spec.specs.Form.{UnitForm}
use Rattle.ts_spec.specs.Recording.{Record}
use Rattle.ts_spec.specs.Received.{received_packets}
use Rattle.ts_spec.specs.Events.{Event, unit_event, bad_check_event, delimit_event, bad_length_event, events_of}
use Rattle.reassembly_law.specs.UnderWay.{unit_of_event}
use Rattle.plan_spec.specs.Plan.{KindFields, ule, mpe, fec, gse, ServiceFields, PlanFields, pid_of}
use Rattle.plan_spec.specs.Changes.{no_service, with_pid, pids_in}
use Rattle.stream_spec.specs.Services.{carried_by_unit, form_of_kind}
use Rattle.reception_spec.specs.Units.{wants_unit, is_read, is_unread, is_filtered, delivered_by_unit}
use Rattle.reception_spec.specs.Numbers.{is_unit, PidNumbers, no_numbers, numbers_if_on, units_on, units_of, unit_numbers}
use Rattle.reception_spec.specs.Spans.{span_of}
use Rattle.reception_spec.specs.Delivered.{service_on}
use Rattle.reception_spec.specs.Sums.{sum_of_numbers, numbers_on, numbers_of, units_in_spans, unit_numbers_of}
use Rattle.reception_law.proofs.Fronts.{units_are}
use Rattle.reception_law.proofs.Sums.{numbers_sum, first_and_rest}
use Rattle.stream_spec.specs.Services.{kind_at}
use Rattle.stream_law.specs.Words.{is_single}
use Rattle.count_law.proofs.Times.{once_if}

-- One unit.

by_datagram : (o : Option (List ℕ)) (w : Bool)
    → once_if (not (nat_lt 0 (length (option_to_list o)))) + once_if (not (not (nat_lt 0 (length (option_to_list o)))) && not w) + length (cond w (option_to_list o) []) ≡ 1
by_datagram None true = refl
by_datagram None false = refl
by_datagram (Some datagram) true = refl
by_datagram (Some datagram) false = refl

one_unit : (kind : KindFields) (unit : List ℕ) (w : Bool) → is_single kind ≡ true
    → once_if (not (is_read kind unit)) + once_if (not (not (is_read kind unit)) && not w) + length (cond w (carried_by_unit kind unit) []) ≡ 1
one_unit (ule pid address packing) unit w is = by_datagram _ w
one_unit (mpe pid) unit w is = by_datagram _ w
one_unit (fec pid rows parity window) unit w is = absurd (cc)
one_unit (gse isi address) unit w is = absurd (cc)

units_counted : (service : ServiceFields) → is_single service.kind ≡ true → (units : List (List ℕ))
    → length units ≡ (unit_numbers service units).unread + (unit_numbers service units).filtered + (unit_numbers service units).datagrams
units_counted service is [] = refl
units_counted service is (unit ∷ units) =
    let rest = units_counted service is units in
    let one = one_unit service.kind unit (wants_unit service unit) is in
    let unread = sum_by-cons (λ u. cond (is_unread service u) 1 0) unit units in
    let filtered = sum_by-cons (λ u. cond (is_filtered service u) 1 0) unit units in
    let datagrams = length-append (delivered_by_unit service unit) (flat_map (delivered_by_unit service) units) in
    omega (arith, rest, one, unread, filtered, datagrams)

-- Those of all spans.

event_counts : (e : Event) → length (unit_of_event e) ≡ once_if (is_unit e)
event_counts (unit_event moment unit) = refl
event_counts bad_check_event = refl
event_counts delimit_event = refl
event_counts bad_length_event = refl

events_count : (events : List Event) → length (flat_map unit_of_event events) ≡ count_by is_unit events
events_count [] = refl
events_count (e ∷ events) =
    length-append (unit_of_event e) (flat_map unit_of_event events)
    ∙ ap₂ (λ (a b : ℕ). a + b) (event_counts e) (events_count events)
    ∙ sym (sum_by-cons (λ x. cond (is_unit x) 1 0) e events)

on_pid : (form : UnitForm) (pid : ℕ) (records : List Record) → (numbers_if_on form (Some pid) records).units ≡ length (units_on form (Some pid) records)
on_pid form pid records =
    sym (ap (λ (units : List (List ℕ)). length units) (units_are form pid records)
    ∙ length-map (flat_map unit_of_event (events_of form (received_packets pid records))) (λ (timed : ℕ × List ℕ). timed.1)
    ∙ events_count (events_of form (received_packets pid records)))

stays : (kind : KindFields) (pid : ℕ) → is_single kind ≡ true → pid_of (with_pid kind pid) ≡ Some pid
stays (ule old address packing) pid is = refl
stays (mpe old) pid is = refl
stays (fec old rows parity window) pid is = absurd (cc)
stays (gse isi address) pid is = absurd (cc)

in_spans : (plan : PlanFields) (k : ℕ) (records : List Record) → is_single (get_or plan.services k no_service).kind ≡ true → (pids : List ℕ)
    → (fold sum_of_numbers no_numbers (map (numbers_on plan k records) pids)).units ≡ length (flat_map (λ pid. units_of (service_on plan k pid) (span_of plan k pid records)) pids)
in_spans plan k records is [] = refl
in_spans plan k records is (pid ∷ pids) =
    let rest = in_spans plan k records is pids in
    let parts = ap (λ (n : PidNumbers). n.units) (first_and_rest sum_of_numbers no_numbers numbers_sum (numbers_on plan k records pid) (map (numbers_on plan k records) pids)) in
    let form : UnitForm = form_of_kind (service_on plan k pid).kind in
    let span : List Record = span_of plan k pid records in
    let on : pid_of (service_on plan k pid).kind ≡ Some pid = stays (get_or plan.services k no_service).kind pid is in
    let one : (numbers_on plan k records pid).units ≡ length (units_of (service_on plan k pid) span) =
    ap (λ (o : Option ℕ). (numbers_if_on form o span).units) on ∙ on_pid form pid span ∙ ap (λ (o : Option ℕ). length (units_on form o span)) (sym on) in
    let both = length-append (units_of (service_on plan k pid) span) (flat_map (λ p. units_of (service_on plan k p) (span_of plan k p records)) pids) in
    omega (arith, rest, parts, one, both)

-- the kind of a service by its place
kind_by_place : (services : List ServiceFields) (k : ℕ) → (get_or services k no_service).kind ≡ get_or (map (λ (s : ServiceFields). s.kind) services) k (mpe 0)
kind_by_place [] k = refl
kind_by_place (s ∷ services) zero = refl
kind_by_place (s ∷ services) (suc k) = kind_by_place services k

pub kind_is_at : (plan : PlanFields) (k : ℕ) → (get_or plan.services k no_service).kind ≡ kind_at plan k
kind_is_at plan k = kind_by_place plan.services k

pub all_units_counted : (plan : PlanFields) (k : ℕ) (records : List Record) → is_single (kind_at plan k) ≡ true
    → (numbers_of plan k records).units ≡ (unit_numbers_of plan k records).unread + (unit_numbers_of plan k records).filtered + (unit_numbers_of plan k records).datagrams
all_units_counted plan k records is =
    let single : is_single (get_or plan.services k no_service).kind ≡ true = ap is_single (kind_is_at plan k) ∙ is in
    in_spans plan k records single (pids_in plan k) ∙ units_counted (get_or plan.services k no_service) single (units_in_spans plan k records)
