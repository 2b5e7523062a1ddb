-- Spans, record by record, and blank ones.
use Rattle.std.proofs.Common.{◌≡◌, ◌⊎◌, inl, inr, ℕ, ◌+◌, ◌-◌, ◌<◌, ◌≤◌, Bool, true, false, cond, eqb, Option, None, Some, List, [], ◌∷◌, ◌++◌, length, map, flat_map, drop, refl, ap, ap₂, sym, ◌∙◌, arith}
use Rattle.std.specs.Prelude.{count_by, ◌≢◌}
use Rattle.std.proofs.lemmas.Bool.{eq-eqb, ne_eqb, eqb-true}
use Rattle.ts_spec.specs.Form.{UnitForm}
use Rattle.ts_spec.specs.Recording.{Record}
use Rattle.ts_spec.specs.Received.{Arrival, no_record, arrivals_from, arrivals, received_after, received_packets}
use Rattle.ts_spec.specs.Reassembly.{PlacedUnit, accepted_in}
use Rattle.ts_spec.specs.Events.{events_of}
use Rattle.plan_spec.specs.Plan.{PlanFields, pid_of}
use Rattle.plan_spec.specs.Changes.{has_pid, pid_in}
use Rattle.stream_spec.specs.Services.{form_of_kind}
use Rattle.reception_spec.specs.Units.{delivered_by_unit}
use Rattle.reception_spec.specs.Packets.{is_on}
use Rattle.reception_spec.specs.Numbers.{PidNumbers, no_numbers, numbers_if_on, gaps_in, is_unit, is_bad_check, is_delimit, is_bad_length, units_on, units_of, unit_numbers}
use Rattle.reception_spec.specs.Spans.{is_heard_on, span_from, span_of}
use Rattle.fec_frame_spec.specs.Sections.{TimedSection}
use Rattle.fec_frame_spec.specs.Groups.{closed_frames}
use Rattle.reception_spec.specs.Frames.{frames_received, rows_of, frame_numbers}
use Rattle.reception_spec.specs.Delivered.{delivered_datagrams, told_by, service_on}
use Rattle.reception_spec.specs.Sums.{numbers_on, frame_numbers_on}
use Rattle.reception_law.specs.Words.{closed_on}
use Rattle.reception_law.specs.Sums.{unit_numbers_on}
use Rattle.reception_law.specs.InForce.{pid_in_force, IsBlank}
use Rattle.reception_law.proofs.Fronts.{same_arrivals, same_packets, same_units, blank_is_off}
use Rattle.reception_law.proofs.Frames.{same_told, same_frames, no_frames_on, units_tell}
use Rattle.reception_law.proofs.OtherPid.{pid_or_none}
use Rattle.reception_law.proofs.VersionInForce.{before}

-- One record more.

pub heard_same : (plan : PlanFields) (k pid : ℕ) (records more : List Record) (place : ℕ) → place ≤ length records → is_heard_on plan (records ++ more) k pid place ≡ is_heard_on plan records k pid place
heard_same plan k pid records more place within = ap (λ (t : ℕ). has_pid (pid_in plan t k) pid) (before plan records more place within)

from_same : (plan : PlanFields) (k pid : ℕ) (all more : List Record) (place : ℕ) (records : List Record) → place + length records ≤ length all
    → span_from plan (all ++ more) k pid place records ≡ span_from plan all k pid place records
from_same plan k pid all more place [] within = refl
from_same plan k pid all more place (r ∷ records) within =
    ap₂ (λ (b : Bool) (t : List Record). cond b r no_record ∷ t) (heard_same plan k pid all more place (omega (arith, within)))
    (from_same plan k pid all more (place + 1) records (omega (arith, within)))

from_behind : (plan : PlanFields) (k pid : ℕ) (all : List Record) (place end : ℕ) (records : List Record) (r : Record) → end ≡ place + length records
    → span_from plan all k pid place (records ++ r ∷ []) ≡ span_from plan all k pid place records ++ cond (is_heard_on plan all k pid end) r no_record ∷ []
from_behind plan k pid all place end [] r is =
    let here : end ≡ place = omega (arith, is) in
    ap (λ (n : ℕ). cond (is_heard_on plan all k pid n) r no_record ∷ []) (sym here)
from_behind plan k pid all place end (x ∷ records) r is =
    ap (λ (t : List Record). cond (is_heard_on plan all k pid place) x no_record ∷ t) (from_behind plan k pid all (place + 1) end records r (omega (arith, is)))

-- it is the record where the version in force after the records before it has the service on the PID, and a blank one otherwise
pub span_more : (plan : PlanFields) (k pid : ℕ) (records : List Record) (r : Record)
    → span_of plan k pid (records ++ r ∷ []) ≡ span_of plan k pid records ++ cond (is_heard_on plan records k pid (length records)) r no_record ∷ []
span_more plan k pid records r =
    from_behind plan k pid (records ++ r ∷ []) 0 (length records) records r (omega arith)
    ∙ ap₂ (λ (t : List Record) (b : Bool). t ++ cond b r no_record ∷ [])
    (from_same plan k pid records (r ∷ []) 0 records (omega arith)) (heard_same plan k pid records (r ∷ []) (length records) (omega arith))

pub span_by : (plan : PlanFields) (k pid : ℕ) (records : List Record) (r : Record) (b : Bool) → is_heard_on plan records k pid (length records) ≡ b
    → span_of plan k pid (records ++ r ∷ []) ≡ span_of plan k pid records ++ cond b r no_record ∷ []
span_by plan k pid records r b is = span_more plan k pid records r ∙ ap (λ (c : Bool). span_of plan k pid records ++ cond c r no_record ∷ []) is

-- the PID in force, and others
pub heard : (plan : PlanFields) (k pid : ℕ) (records : List Record) → pid_in_force plan k records ≡ Some pid → is_heard_on plan records k pid (length records) ≡ true
heard plan k pid records on = ap (λ (o : Option ℕ). has_pid o pid) on ∙ eq-eqb pid pid refl

pub not_heard : (plan : PlanFields) (k pid other : ℕ) (records : List Record) → pid_in_force plan k records ≡ Some other → eqb other pid ≡ false
    → is_heard_on plan records k pid (length records) ≡ false
not_heard plan k pid other records on differs = ap (λ (o : Option ℕ). has_pid o pid) on ∙ differs

has_pid_is : (o : Option ℕ) (pid : ℕ) → has_pid o pid ≡ true → o ≡ Some pid
has_pid_is None pid has = absurd (cc (has))
has_pid_is (Some own) pid has = ap (λ (n : ℕ). Some n) (eqb-true own pid has)

pub span_heard : (plan : PlanFields) (k pid : ℕ) (records : List Record) (r : Record) → pid_in_force plan k records ≡ Some pid
    → span_of plan k pid (records ++ r ∷ []) ≡ span_of plan k pid records ++ r ∷ []
span_heard plan k pid records r on = span_by plan k pid records r true (heard plan k pid records on)

pub span_blank : (plan : PlanFields) (k pid other : ℕ) (records : List Record) (r : Record) → pid_in_force plan k records ≡ Some other → other ≢ pid
    → span_of plan k pid (records ++ r ∷ []) ≡ span_of plan k pid records ++ no_record ∷ []
span_blank plan k pid other records r on differs = span_by plan k pid records r false (not_heard plan k pid other records on (ne_eqb other pid differs))

-- What a span that grows by a record of no use gives: the same as before.

-- the version in force does not have the service on the PID, or the record is no packet of it
abbrev pub IsOff : PlanFields → ℕ → ℕ → List Record → Record → Type 0
IsOff plan k pid records r = (is_heard_on plan records k pid (length records) ≡ false) ⊎ (is_on pid r ≡ false)

span_off : (plan : PlanFields) (k pid : ℕ) (records : List Record) (r : Record) → IsOff plan k pid records r
    → (blank : Record) × (is_on pid blank ≡ false) × (span_of plan k pid (records ++ r ∷ []) ≡ span_of plan k pid records ++ blank ∷ [])
span_off plan k pid records r (inl none) = (no_record, blank_is_off pid, span_by plan k pid records r false none)
span_off plan k pid records r (inr off) = by_test (is_heard_on plan records k pid (length records)) refl
  where
    by_test : (b : Bool) → is_heard_on plan records k pid (length records) ≡ b
        → (blank : Record) × (is_on pid blank ≡ false) × (span_of plan k pid (records ++ r ∷ []) ≡ span_of plan k pid records ++ blank ∷ [])
    by_test true is = (r, off, span_by plan k pid records r true is)
    by_test false is = (no_record, blank_is_off pid, span_by plan k pid records r false is)

-- all that a service tells in the span
abbrev pub tells : Bool → PlanFields → ℕ → List Record → ℕ → List (List ℕ)
tells ended plan k records pid = told_by ended plan.recording (service_on plan k pid) (span_of plan k pid records)

pub told_same : (ended : Bool) (plan : PlanFields) (k pid : ℕ) (records : List Record) (r : Record) → IsOff plan k pid records r
    → tells ended plan k (records ++ r ∷ []) pid ≡ tells ended plan k records pid
told_same ended plan k pid records r off =
    let more = span_off plan k pid records r off in
    ap (told_by ended plan.recording (service_on plan k pid)) more.2
    ∙ same_told ended plan.recording (service_on plan k pid) pid (pid_or_none _ pid) (span_of plan k pid records) more.0 more.1

-- a record that is no packet of the PID closes no more of its frames
pub closed_same : (plan : PlanFields) (k pid : ℕ) (records : List Record) (r : Record) → IsOff plan k pid records r
    → closed_on plan k pid (records ++ r ∷ []) ≡ closed_on plan k pid records
closed_same plan k pid records r off =
    ap₂ (λ (a b : List (List ℕ)). drop (length a) b) (told_same false plan k pid records r off) (told_same true plan k pid records r off)

units_same : (plan : PlanFields) (k pid : ℕ) (records : List Record) (r : Record) → IsOff plan k pid records r
    → units_of (service_on plan k pid) (span_of plan k pid (records ++ r ∷ [])) ≡ units_of (service_on plan k pid) (span_of plan k pid records)
units_same plan k pid records r off =
    let more = span_off plan k pid records r off in
    ap (units_of (service_on plan k pid)) more.2
    ∙ same_units (form_of_kind (service_on plan k pid).kind) (pid_of (service_on plan k pid).kind) pid (pid_or_none _ pid) (span_of plan k pid records) more.0 more.1

pub unit_numbers_same : (plan : PlanFields) (k pid : ℕ) (records : List Record) (r : Record) → IsOff plan k pid records r
    → unit_numbers_on plan k (records ++ r ∷ []) pid ≡ unit_numbers_on plan k records pid
unit_numbers_same plan k pid records r off = ap (unit_numbers (service_on plan k pid)) (units_same plan k pid records r off)

pub frame_numbers_same : (ended : Bool) (plan : PlanFields) (k pid : ℕ) (records : List Record) (r : Record) → IsOff plan k pid records r
    → frame_numbers_on ended plan k (records ++ r ∷ []) pid ≡ frame_numbers_on ended plan k records pid
frame_numbers_same ended plan k pid records r off =
    let more = span_off plan k pid records r off in
    ap (λ (f : List (List TimedSection)). frame_numbers (rows_of (service_on plan k pid).kind) (closed_frames ended f))
    (ap (frames_received plan.recording (service_on plan k pid).kind) more.2
    ∙ same_frames plan.recording (service_on plan k pid).kind pid (pid_or_none _ pid) (span_of plan k pid records ++ more.0 ∷ []) (span_of plan k pid records)
    (same_packets pid (span_of plan k pid records) more.0 more.1))

-- the numbers of a PID, by the packets that arrive on it
abbrev numbers_by : UnitForm → List Arrival → PidNumbers
numbers_by form came = record {
  heard = length (received_after None came);
  repeats = length came - length (received_after None came);
  gaps = gaps_in (received_after None came);
  units = count_by is_unit (events_of form (received_after None came));
  bad_check = count_by is_bad_check (events_of form (received_after None came));
  delimited = count_by is_delimit (events_of form (received_after None came));
  bad_length = count_by is_bad_length (events_of form (received_after None came));
}

pid_numbers_same : (form : UnitForm) (on : Option ℕ) (pid : ℕ) → (on ≡ Some pid) ⊎ (on ≡ None) → (records others : List Record) → arrivals pid records ≡ arrivals pid others
    → numbers_if_on form on records ≡ numbers_if_on form on others
pid_numbers_same form on pid (inl is) records others same =
    ap (λ (o : Option ℕ). numbers_if_on form o records) is
    ∙ ap (numbers_by form) same
    ∙ sym (ap (λ (o : Option ℕ). numbers_if_on form o others) is)
pid_numbers_same form on pid (inr is) records others same =
    ap (λ (o : Option ℕ). numbers_if_on form o records) is ∙ sym (ap (λ (o : Option ℕ). numbers_if_on form o others) is)

pub numbers_same : (plan : PlanFields) (k pid : ℕ) (records : List Record) (r : Record) → IsOff plan k pid records r → numbers_on plan k (records ++ r ∷ []) pid ≡ numbers_on plan k records pid
numbers_same plan k pid records r off =
    let more = span_off plan k pid records r off in
    pid_numbers_same (form_of_kind (service_on plan k pid).kind) (pid_of (service_on plan k pid).kind) pid (pid_or_none _ pid) (span_of plan k pid (records ++ r ∷ [])) (span_of plan k pid records)
    (ap (arrivals pid) more.2 ∙ same_arrivals pid (span_of plan k pid records) more.0 more.1)

-- Blank spans.

abbrev blank : List Record → List Record
blank records = map (λ (r : Record). no_record) records

from_blank : (plan : PlanFields) (all : List Record) (k pid place : ℕ) (records : List Record)
    → ((p : ℕ) → p < place + length records → is_heard_on plan all k pid p ≡ false) → span_from plan all k pid place records ≡ blank records
from_blank plan all k pid place [] none = refl
from_blank plan all k pid place (r ∷ records) none =
    ap₂ (λ (b : Bool) (t : List Record). cond b r no_record ∷ t) (none place (omega arith))
    (from_blank plan all k pid (place + 1) records (λ p less. none p (omega (arith, less))))

none_arrive : (pid place : ℕ) (records : List Record) → arrivals_from pid place (blank records) ≡ []
none_arrive pid place [] = refl
none_arrive pid place (r ∷ records) = none_arrive pid (place + 1) records

no_units_on : (form : UnitForm) (on : Option ℕ) (pid : ℕ) → (on ≡ Some pid) ⊎ (on ≡ None) → (records : List Record) → received_packets pid records ≡ [] → units_on form on records ≡ []
no_units_on form on pid (inl is) records none =
    ap (λ (o : Option ℕ). units_on form o records) is ∙ ap (λ (t : List Arrival). map (λ (a : PlacedUnit). a.unit) (accepted_in form t)) none
no_units_on form on pid (inr is) records none = ap (λ (o : Option ℕ). units_on form o records) is

no_numbers_on : (form : UnitForm) (on : Option ℕ) (pid : ℕ) → (on ≡ Some pid) ⊎ (on ≡ None) → (records : List Record) → arrivals pid records ≡ [] → numbers_if_on form on records ≡ no_numbers
no_numbers_on form on pid (inl is) records none =
    ap (λ (o : Option ℕ). numbers_if_on form o records) is ∙ ap (numbers_by form) none
no_numbers_on form on pid (inr is) records none = ap (λ (o : Option ℕ). numbers_if_on form o records) is

-- where the version in force has the service on the PID at none of the records
pub blank_where : (plan : PlanFields) (k pid : ℕ) (records : List Record) → ((p : ℕ) → p < length records → is_heard_on plan records k pid p ≡ false) → IsBlank plan k pid records
blank_where plan k pid records none = record {
  span = span;
  packets = packets;
  units = units;
  datagrams = datagrams;
  frames = frames;
  told = λ ended. units_tell ended plan.recording (service_on plan k pid) (span_of plan k pid records) frames ∙ datagrams;
  numbers = no_numbers_on (form_of_kind (service_on plan k pid).kind) (pid_of (service_on plan k pid).kind) pid (pid_or_none _ pid) (span_of plan k pid records) came;
  unit_numbers = ap (unit_numbers (service_on plan k pid)) units;
  frame_numbers = λ ended. ap (λ (f : List (List TimedSection)). frame_numbers (rows_of (service_on plan k pid).kind) (closed_frames ended f)) frames;
}
  where
    span : span_of plan k pid records ≡ blank records
    span = from_blank plan records k pid 0 records (λ p less. none p (omega (arith, less)))

    came : arrivals pid (span_of plan k pid records) ≡ []
    came = ap (arrivals pid) span ∙ none_arrive pid 0 records

    packets : received_packets pid (span_of plan k pid records) ≡ []
    packets = ap (received_after None) came

    units : units_of (service_on plan k pid) (span_of plan k pid records) ≡ []
    units = no_units_on (form_of_kind (service_on plan k pid).kind) (pid_of (service_on plan k pid).kind) pid (pid_or_none _ pid) (span_of plan k pid records) packets

    datagrams : delivered_datagrams (service_on plan k pid) (span_of plan k pid records) ≡ []
    datagrams = ap (flat_map (delivered_by_unit (service_on plan k pid))) units

    frames : frames_received plan.recording (service_on plan k pid).kind (span_of plan k pid records) ≡ []
    frames = no_frames_on plan.recording (service_on plan k pid).kind pid (pid_or_none _ pid) (span_of plan k pid records) packets
