-- A service on another PID: all else stays.
use Rattle.std.proofs.Common.{◌≡◌, ◌⊎◌, inl, inr, ℕ, Option, None, Some, List, get_or, refl, ap, sym, ◌∙◌, Bool, true, false}
use Rattle.std.specs.Prelude.{is_some}
use Rattle.std.proofs.Math.ListN.{get_or-map}
use Rattle.plan_spec.specs.Plan.{KindFields, ule, mpe, fec, gse, ServiceFields, MovedFields, PlanFields, pid_of}
use Rattle.plan_spec.specs.Changes.{with_pid, on_pid, no_service, services_in, pid_in}
use Rattle.plan_law.proofs.Kept.{kept}
use Rattle.stream_spec.specs.Services.{form_of_kind}
use Rattle.reception_spec.specs.Units.{delivered_by_unit}
use Rattle.reception_spec.specs.Numbers.{unit_numbers}
use Rattle.reception_spec.specs.Frames.{rows_of}
use Rattle.reception_spec.specs.Delivered.{service_on}

abbrev with_kind : ServiceFields → KindFields → ServiceFields
with_kind service kind = record service { kind = kind }

-- What another PID leaves.

pub form_stays : (kind : KindFields) (pid : ℕ) → form_of_kind (with_pid kind pid) ≡ form_of_kind kind
form_stays (ule old address packing) pid = refl
form_stays (mpe old) pid = refl
form_stays (fec old rows parity window) pid = refl
form_stays (gse isi address) pid = refl

delivered_stays : (service : ServiceFields) (kind : KindFields) (pid : ℕ) (unit : List ℕ)
    → delivered_by_unit (with_kind service (with_pid kind pid)) unit ≡ delivered_by_unit (with_kind service kind) unit
delivered_stays service (ule old address packing) pid unit = refl
delivered_stays service (mpe old) pid unit = refl
delivered_stays service (fec old rows parity window) pid unit = refl
delivered_stays service (gse isi address) pid unit = refl

pub same_delivered : (service : ServiceFields) (pid : ℕ) (unit : List ℕ) → delivered_by_unit (on_pid service pid) unit ≡ delivered_by_unit service unit
same_delivered service pid unit = delivered_stays service service.kind pid unit

numbers_stay : (service : ServiceFields) (kind : KindFields) (pid : ℕ) (units : List (List ℕ))
    → unit_numbers (with_kind service (with_pid kind pid)) units ≡ unit_numbers (with_kind service kind) units
numbers_stay service (ule old address packing) pid units = refl
numbers_stay service (mpe old) pid units = refl
numbers_stay service (fec old rows parity window) pid units = refl
numbers_stay service (gse isi address) pid units = refl

pub same_unit_numbers : (service : ServiceFields) (pid : ℕ) (units : List (List ℕ)) → unit_numbers (on_pid service pid) units ≡ unit_numbers service units
same_unit_numbers service pid units = numbers_stay service service.kind pid units

pub rows_stay : (kind : KindFields) (pid : ℕ) → rows_of (with_pid kind pid) ≡ rows_of kind
rows_stay (ule old address packing) pid = refl
rows_stay (mpe old) pid = refl
rows_stay (fec old rows parity window) pid = refl
rows_stay (gse isi address) pid = refl

-- The PID itself.

-- it has the PID, or none
pub pid_or_none : (kind : KindFields) (pid : ℕ) → (pid_of (with_pid kind pid) ≡ Some pid) ⊎ (pid_of (with_pid kind pid) ≡ None)
pid_or_none (ule old address packing) pid = inl refl
pid_or_none (mpe old) pid = inl refl
pid_or_none (fec old rows parity window) pid = inl refl
pid_or_none (gse isi address) pid = inr refl

pub pid_after : (kind : KindFields) (pid old : ℕ) → pid_of kind ≡ Some old → pid_of (with_pid kind pid) ≡ Some pid
pid_after (ule one address packing) pid old on = refl
pid_after (mpe one) pid old on = refl
pid_after (fec one rows parity window) pid old on = refl
pid_after (gse isi address) pid old on = absurd (cc (on))

same_kind : (kind : KindFields) (pid : ℕ) → pid_of kind ≡ Some pid → with_pid kind pid ≡ kind
same_kind (ule old address packing) pid on = let same : pid ≡ old = cc (on) in ap (λ (t : ℕ). ule t address packing) same
same_kind (mpe old) pid on = let same : pid ≡ old = cc (on) in ap (λ (t : ℕ). mpe t) same
same_kind (fec old rows parity window) pid on = let same : pid ≡ old = cc (on) in ap (λ (t : ℕ). fec t rows parity window) same
same_kind (gse isi address) pid on = absurd (cc (on))

pub same_service : (service : ServiceFields) (pid : ℕ) → pid_of service.kind ≡ Some pid → on_pid service pid ≡ service
same_service service pid on = ap (with_kind service) (same_kind service.kind pid on)

-- A service that has a PID in one version has one as the plan is written.

some_stays : (kind : KindFields) (pid : ℕ) → is_some (pid_of (with_pid kind pid)) ≡ is_some (pid_of kind)
some_stays (ule old address packing) pid = refl
some_stays (mpe old) pid = refl
some_stays (fec old rows parity window) pid = refl
some_stays (gse isi address) pid = refl

abbrev has_some : ServiceFields → Bool
has_some service = is_some (pid_of service.kind)

some_kept : (plan : PlanFields) (version k : ℕ) → is_some (pid_in plan version k) ≡ has_some (get_or plan.services k no_service)
unfolding pid_in
some_kept plan version k =
    sym (get_or-map has_some (services_in plan version) k no_service)
    ∙ ap (λ (l : List Bool). get_or l k (has_some no_service)) (kept has_some (record { same = λ (service : ServiceFields) (moved : MovedFields). some_stays service.kind moved.pid }) plan version)
    ∙ get_or-map has_some plan.services k no_service

some_pid : (kind : KindFields) (pid : ℕ) → is_some (pid_of kind) ≡ true → pid_of (with_pid kind pid) ≡ Some pid
some_pid (ule one address packing) pid on = refl
some_pid (mpe one) pid on = refl
some_pid (fec one rows parity window) pid on = refl
some_pid (gse isi address) pid on = absurd (cc (on))

pub pid_on : (plan : PlanFields) (version k pid : ℕ) → pid_in plan version k ≡ Some pid → pid_of (service_on plan k pid).kind ≡ Some pid
pid_on plan version k pid on =
    some_pid (get_or plan.services k no_service).kind pid (sym (some_kept plan version k) ∙ ap (λ (o : Option ℕ). is_some o) on)

-- and where it has none in one version, it has none in another
pub none_stays : (plan : PlanFields) (version other k : ℕ) → pid_in plan version k ≡ None → pid_in plan other k ≡ None
none_stays plan version other k none = by_pid (pid_in plan other k) refl
  where
    by_pid : (o : Option ℕ) → pid_in plan other k ≡ o → o ≡ None
    by_pid None is = refl
    by_pid (Some pid) is =
        let never : true ≡ false =
        sym (ap (λ (o : Option ℕ). is_some o) is) ∙ some_kept plan other k ∙ sym (some_kept plan version k) ∙ ap (λ (o : Option ℕ). is_some o) none in
        absurd (cc (never))
