-- What no version changes of a service.
use Rattle.std.proofs.Common.{◌≡◌, ℕ, zero, suc, get_or, List, [], ◌∷◌, map, refl, sym, ap, ap₂, ◌∙◌, Option, Some, None}
use Rattle.std.proofs.Math.ListN.{get_or-map}
use Rattle.plan_spec.specs.Plan.{WindowFields, KindFields, ule, mpe, fec, gse, ServiceFields, MovedFields, PlanFields, pid_of, sliced_of}
use Rattle.plan_spec.specs.Changes.{with_pid, no_service, services_in, plan_in, service_in, pid_in}
use Rattle.plan_law.proofs.Kept.{kept}
use Rattle.stream_spec.specs.Units.{FrameSchedule, burst_sizes, frame_count, units_of_kind}
use Rattle.stream_spec.specs.Services.{kind_at, form_of_kind, carried_by_unit}
use Rattle.stream_law.specs.Words.{is_single}

-- the kind of service k in a version, and its PID there
pub kind_of_version : (plan : PlanFields) (version k : ℕ) → kind_at (plan_in plan version) k ≡ (service_in plan version k).kind
kind_of_version plan version k = get_or-map (λ (service : ServiceFields). service.kind) (services_in plan version) k no_service

pub unicast_of_version : (plan : PlanFields) (version k : ℕ)
    → get_or (map (λ (service : ServiceFields). service.unicast) (plan_in plan version).services) k [] ≡ (service_in plan version k).unicast
unicast_of_version plan version k = get_or-map (λ (service : ServiceFields). service.unicast) (services_in plan version) k no_service

pub pid_of_version : (plan : PlanFields) (version k : ℕ) → pid_in plan version k ≡ pid_of (kind_at (plan_in plan version) k)
unfolding pid_in
pid_of_version plan version k = ap pid_of (sym (kind_of_version plan version k))

-- what the PID does not change of a kind
pub part_kept : {X : Type 0} (part : KindFields → X) → ((kind : KindFields) (pid : ℕ) → part (with_pid kind pid) ≡ part kind)
    → (plan : PlanFields) (version k : ℕ) → part (kind_at (plan_in plan version) k) ≡ part (kind_at plan k)
part_kept {X} part stays plan version k =
    of_list (services_in plan version) k
    ∙ ap (λ (l : List X). get_or l k (part (mpe 0)))
    (kept (λ (service : ServiceFields). part service.kind) (record { same = λ (service : ServiceFields) (moved : MovedFields). stays service.kind moved.pid }) plan version)
    ∙ sym (of_list plan.services k)
  where
    of_list : (services : List ServiceFields) (j : ℕ)
        → part (get_or (map (λ (service : ServiceFields). service.kind) services) j (mpe 0)) ≡ get_or (map (λ (service : ServiceFields). part service.kind) services) j (part (mpe 0))
    of_list [] j = refl
    of_list (service ∷ services) zero = refl
    of_list (service ∷ services) (suc j) = of_list services j

pub form_kept : (plan : PlanFields) (version k : ℕ) → form_of_kind (kind_at (plan_in plan version) k) ≡ form_of_kind (kind_at plan k)
form_kept plan version k = part_kept form_of_kind stays plan version k
  where
    stays : (kind : KindFields) (pid : ℕ) → form_of_kind (with_pid kind pid) ≡ form_of_kind kind
    stays (ule old address packing) pid = refl
    stays (mpe old) pid = refl
    stays (fec old rows parity window) pid = refl
    stays (gse isi address) pid = refl

pub carried_kept : (plan : PlanFields) (version k : ℕ) (unit : List ℕ) → carried_by_unit (kind_at (plan_in plan version) k) unit ≡ carried_by_unit (kind_at plan k) unit
carried_kept plan version k unit = part_kept (λ kind. carried_by_unit kind unit) stays plan version k
  where
    stays : (kind : KindFields) (pid : ℕ) → carried_by_unit (with_pid kind pid) unit ≡ carried_by_unit kind unit
    stays (ule old address packing) pid = refl
    stays (mpe old) pid = refl
    stays (fec old rows parity window) pid = refl
    stays (gse isi address) pid = refl

pub single_kept : (plan : PlanFields) (version k : ℕ) → is_single (kind_at (plan_in plan version) k) ≡ is_single (kind_at plan k)
single_kept plan version k = part_kept is_single stays plan version k
  where
    stays : (kind : KindFields) (pid : ℕ) → is_single (with_pid kind pid) ≡ is_single kind
    stays (ule old address packing) pid = refl
    stays (mpe old) pid = refl
    stays (fec old rows parity window) pid = refl
    stays (gse isi address) pid = refl

pub units_kept : (plan : PlanFields) (version k : ℕ) (mac : List ℕ) (schedule : FrameSchedule) (datagrams : List (List ℕ))
    → units_of_kind (kind_at (plan_in plan version) k) mac schedule datagrams ≡ units_of_kind (kind_at plan k) mac schedule datagrams
units_kept plan version k mac schedule datagrams = part_kept (λ kind. units_of_kind kind mac schedule datagrams) stays plan version k
  where
    stays : (kind : KindFields) (pid : ℕ) → units_of_kind (with_pid kind pid) mac schedule datagrams ≡ units_of_kind kind mac schedule datagrams
    stays (ule old address packing) pid = refl
    stays (mpe old) pid = refl
    stays (fec old rows parity None) pid = refl
    stays (fec old rows parity (Some window)) pid = refl
    stays (gse isi address) pid = refl

pub frame_count_kept : (plan : PlanFields) (version k : ℕ) (datagrams : List (List ℕ))
    → frame_count (kind_at (plan_in plan version) k) datagrams ≡ frame_count (kind_at plan k) datagrams
frame_count_kept plan version k datagrams = part_kept (λ kind. frame_count kind datagrams) stays plan version k
  where
    stays : (kind : KindFields) (pid : ℕ) → frame_count (with_pid kind pid) datagrams ≡ frame_count kind datagrams
    stays (ule old address packing) pid = refl
    stays (mpe old) pid = refl
    stays (fec old rows parity None) pid = refl
    stays (fec old rows parity (Some window)) pid = refl
    stays (gse isi address) pid = refl

pub sizes_kept : (plan : PlanFields) (version k : ℕ) (datagrams : List (List ℕ))
    → burst_sizes (kind_at (plan_in plan version) k) datagrams ≡ burst_sizes (kind_at plan k) datagrams
sizes_kept plan version k datagrams = part_kept (λ kind. burst_sizes kind datagrams) stays plan version k
  where
    stays : (kind : KindFields) (pid : ℕ) → burst_sizes (with_pid kind pid) datagrams ≡ burst_sizes kind datagrams
    stays (ule old address packing) pid = refl
    stays (mpe old) pid = refl
    stays (fec old rows parity None) pid = refl
    stays (fec old rows parity (Some window)) pid = refl
    stays (gse isi address) pid = refl

pub sliced_kept : (plan : PlanFields) (version k : ℕ) → sliced_of (kind_at (plan_in plan version) k) ≡ sliced_of (kind_at plan k)
sliced_kept plan version k = part_kept sliced_of stays plan version k
  where
    stays : (kind : KindFields) (pid : ℕ) → sliced_of (with_pid kind pid) ≡ sliced_of kind
    stays (ule old address packing) pid = refl
    stays (mpe old) pid = refl
    stays (fec old rows parity None) pid = refl
    stays (fec old rows parity (Some window)) pid = refl
    stays (gse isi address) pid = refl

-- a service in frames has the same frames on each PID
pub frames_kept : (plan : PlanFields) (version k own rows parity : ℕ) (window : Option WindowFields) → kind_at plan k ≡ fec own rows parity window
    → (pid : ℕ) × (kind_at (plan_in plan version) k ≡ fec pid rows parity window)
frames_kept plan version k own rows parity window is =
    by_kind (kind_at (plan_in plan version) k) (part_kept (λ kind. with_pid kind 0) stays plan version k ∙ ap (λ kind. with_pid kind 0) is)
  where
    stays : (kind : KindFields) (pid : ℕ) → with_pid (with_pid kind pid) 0 ≡ with_pid kind 0
    stays (ule old address packing) pid = refl
    stays (mpe old) pid = refl
    stays (fec old rows2 parity2 window2) pid = refl
    stays (gse isi address) pid = refl

    rows_in : KindFields → ℕ
    rows_in (ule old address packing) = 0
    rows_in (mpe old) = 0
    rows_in (fec old rows2 parity2 window2) = rows2
    rows_in (gse isi address) = 0

    parity_in : KindFields → ℕ
    parity_in (ule old address packing) = 0
    parity_in (mpe old) = 0
    parity_in (fec old rows2 parity2 window2) = parity2
    parity_in (gse isi address) = 0

    window_in : KindFields → Option WindowFields
    window_in (ule old address packing) = None
    window_in (mpe old) = None
    window_in (fec old rows2 parity2 window2) = window2
    window_in (gse isi address) = None

    by_kind : (kind : KindFields) → with_pid kind 0 ≡ fec 0 rows parity window → (pid : ℕ) × (kind ≡ fec pid rows parity window)
    by_kind (ule old address packing) e = absurd (cc)
    by_kind (mpe old) e = absurd (cc)
    by_kind (fec old rows2 parity2 window2) e =
        (old, ap₂ (λ (r q : ℕ). fec old r q window2) (ap rows_in e) (ap parity_in e) ∙ ap (λ (w : Option WindowFields). fec old rows parity w) (ap window_in e))
    by_kind (gse isi address) e = absurd (cc)

-- nor the address of its receivers
pub unicast_kept : (plan : PlanFields) (version k : ℕ)
    → get_or (map (λ (service : ServiceFields). service.unicast) (plan_in plan version).services) k [] ≡ get_or (map (λ (service : ServiceFields). service.unicast) plan.services) k []
unicast_kept plan version k =
    ap (λ (l : List (List ℕ)). get_or l k [])
    (kept (λ (service : ServiceFields). service.unicast) (record { same = λ (service : ServiceFields) (moved : MovedFields). refl }) plan version)
