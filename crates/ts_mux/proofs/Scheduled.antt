-- When the bursts of a service go out, and what it is in a part.
use Rattle.std.proofs.Common.{◌≡◌, ℕ, zero, suc, ◌+◌, ◌-◌, ◌<◌, ◌≤◌, Bool, true, false, ◌||◌, cond, ltb, List, [], ◌∷◌, ◌++◌, length, get_or, refl, sym, ap, ap₂, ◌∙◌, arith, Some, None}
use Rattle.std.specs.Prelude.{slice_get, is_some}
use Rattle.std.specs.List.{fold, list_any, range_with_len}
use Rattle.fec_frame_spec.specs.Sender.{with_datagram}
use Rattle.plan_spec.specs.Plan.{KindFields, ule, mpe, fec, gse, ServiceFields, PlanFields, kinds, sliced_of}
use Rattle.plan_spec.specs.Changes.{service_in, pid_in}
use Rattle.plan.specs.Parts.{kind_seen, service_seen}
use Rattle.plan.specs.PlanView.{plan_fields}
use Rattle.plan.specs.declared.service.Service.{Service}
use Rattle.plan.specs.declared.plan.Plan.{Plan}
use Rattle.stream_spec.specs.Services.{kind_at}
use Rattle.stream_spec.specs.Units.{FrameSchedule, fits_window, frame_count, burst_sizes, packets_of_kind}
use Rattle.stream_spec.specs.Stream.{has_frames, has_frames_after, schedule_of}
use Rattle.stream_law.proofs.Kept.{kind_of_version, frame_count_kept}
use Rattle.slice_law.proofs.Checks.{sliceable}
use Rattle.ts_mux.specs.Services.{listed, frames_before, shape_of, GoesBy, HasTimes, BeginsService, BeginsIn}
use Rattle.ts_mux.specs.ServiceUnits.{AreUnitsFor}
use Rattle.ts_mux.specs.declared.service_packets.Times.{Times}
use Rattle.ts_mux.specs.declared.service_packets.ServicePackets.{ServicePackets}
use Rattle.ts_mux.specs.declared.service_units.ServiceUnits.{ServiceUnits}
use Rattle.ts_mux.proofs.Items.{map_at}
use Rattle.ts_mux.proofs.Moved.{stays_in, kind_in}
use Rattle.ts_mux.proofs.Numbers.{item_is}

-- A sliced service has a burst where it has a datagram.

not_fewer : (fits : List (List ℕ) → Bool) (frames : List (List (List ℕ))) (d : List ℕ) → length frames ≤ length (with_datagram fits frames d)
not_fewer fits [] d = omega arith
not_fewer fits (last ∷ []) d = by_fit (fits (last ++ d ∷ []))
  where
    by_fit : (b : Bool) → length (last ∷ []) ≤ length (cond b ((last ++ d ∷ []) ∷ []) (last ∷ (d ∷ []) ∷ []))
    by_fit true = omega arith
    by_fit false = omega arith
not_fewer fits (frame ∷ next ∷ others) d = omega (arith, not_fewer fits (next ∷ others) d)

none_fewer : (fits : List (List ℕ) → Bool) (ds : List (List ℕ)) (frames : List (List (List ℕ))) → length frames ≤ length (fold (with_datagram fits) frames ds)
none_fewer fits [] frames = omega arith
none_fewer fits (d ∷ ds) frames = omega (arith, none_fewer fits ds (with_datagram fits frames d), not_fewer fits frames d)

same_tests : (a b : ℕ) → (0 < b → 0 < a) → (b ≡ 0 → a ≡ 0) → ltb 0 a ≡ ltb 0 b
same_tests a zero more none = ap (ltb 0) (none refl)
same_tests a (suc b) more none = both (more (omega arith))
  where
    both : 0 < a → ltb 0 a ≡ ltb 0 (suc b)
    both less = grind (arith, less)

some_frames : (kind : KindFields) (ds : List (List ℕ)) → is_some (sliced_of kind) ≡ true → ltb 0 (frame_count kind ds) ≡ ltb 0 (length ds)
some_frames (ule pid address packing) ds is = absurd (cc)
some_frames (mpe pid) ds is = absurd (cc)
some_frames (fec pid rows parity None) ds is = absurd (cc)
some_frames (fec pid rows parity (Some window)) [] is = refl
some_frames (fec pid rows parity (Some window)) (d ∷ ds) is =
    same_tests (frame_count (fec pid rows parity (Some window)) (d ∷ ds)) (length (d ∷ ds))
    (λ some. omega (arith, none_fewer (fits_window rows parity window.length) ds ((d ∷ []) ∷ [])))
    (λ none. absurd (omega (arith, none)))
some_frames (gse isi address) ds is = absurd (cc)

any_same : (p q : ℕ → Bool) → ((v : ℕ) → p v ≡ q v) → (vs : List ℕ) → list_any p vs ≡ list_any q vs
any_same p q same [] = refl
any_same p q same (v ∷ vs) = ap₂ (λ (a b : Bool). a || b) (same v) (any_same p q same vs)

-- it goes on where it has datagrams later
pub goes_on_is : (plan : PlanFields) (lists : List (List (List (List ℕ)))) (k version : ℕ) → is_some (sliced_of (kind_at plan k)) ≡ true → length lists ≡ length plan.changes + 1
    → has_frames_after plan (listed lists) k version ≡ list_any (λ later. ltb 0 (length (listed lists later k))) (range_with_len (version + 1) (length lists - (version + 1)))
goes_on_is plan lists k version is versions =
    any_same (has_frames plan (listed lists) k) (λ later. ltb 0 (length (listed lists later k))) at (range_with_len (version + 1) (length plan.changes - version))
    ∙ ap (λ (n : ℕ). list_any (λ later. ltb 0 (length (listed lists later k))) (range_with_len (version + 1) n)) count
  where
    count : length plan.changes - version ≡ length lists - (version + 1)
    count = omega (arith, versions)

    at : (later : ℕ) → has_frames plan (listed lists) k later ≡ ltb 0 (length (listed lists later k))
    at later =
        ap (λ (kind : KindFields). ltb 0 (frame_count kind (listed lists later k))) (sym (kind_of_version plan later k))
        ∙ ap (ltb 0) (frame_count_kept plan later k (listed lists later k))
        ∙ some_frames (kind_at plan k) (listed lists later k) is

-- the kind of a service of the code's plan
pub kind_there : (plan : Plan) (k : ℕ) (service : Service) → slice_get plan.services k ≡ Some service → kind_at (plan_fields plan) k ≡ kind_seen service.kind
kind_there plan k service found =
    item_is (kinds (plan_fields plan)) k (kind_seen service.kind) (mpe 0)
    (map_at (λ (s : ServiceFields). s.kind) (plan_fields plan).services k (service_seen service) (map_at service_seen plan.services k service found))

-- its bursts are timed
pub has_times : (plan : Plan) (k : ℕ) (service : Service) (times : Times) → slice_get plan.services k ≡ Some service → times.recording ≡ plan.recording → times.packet_rate ≡ plan.packet_rate → times.cycle ≡ plan.cycle
    → HasTimes (kind_seen service.kind) times
has_times plan k service times found recording rate cycle fields is =
    rw (recording, rate, cycle) (sliceable (plan_fields plan) plan.valid k fields (ap sliced_of (kind_there plan k service found) ∙ is))

-- a service that begins a part of its version
module _ (plan : Plan) (version k : ℕ) (service : Service) (found : slice_get plan.services k ≡ Some service) (lists : List (List (List (List ℕ)))) (datagrams : List (List ℕ))
    (there : slice_get (get_or lists version []) k ≡ Some datagrams) (units : ServiceUnits) (pid : ℕ) (pid_is : pid_in (plan_fields plan) version k ≡ Some pid) (counter before : ℕ) (times : Times)
    (goes : is_some (sliced_of (kind_at (plan_fields plan) k)) ≡ true → GoesBy times (schedule_of (plan_fields plan) (listed lists) before k version))
    (are : AreUnitsFor (kind_seen service.kind) service.unicast (frames_before (plan_fields plan) lists version k) datagrams units)
    (it : ServicePackets) (begun : BeginsService (kind_seen service.kind) service.unicast pid counter datagrams units times it) where
  same_kind : kind_at (plan_fields plan) k ≡ kind_seen service.kind
  same_kind = kind_there plan k service found

  same_list : listed lists version k ≡ datagrams
  same_list = item_is (get_or lists version []) k datagrams [] there

  abbrev schedule : FrameSchedule
  schedule = schedule_of (plan_fields plan) (listed lists) before k version

  pub begins_in : BeginsIn (plan_fields plan) version k lists counter before it
  begins_in = record {
    packets_are = begun.packets_are schedule are (λ is. goes (ap (λ (kind : KindFields). is_some (sliced_of kind)) same_kind ∙ is))
        ∙ ap₂ (λ (kind : KindFields) (unicast : List ℕ). packets_of_kind kind unicast counter schedule datagrams)
        (sym (kind_in plan version k service found pid pid_is)) (sym (stays_in plan version k service found).unicast)
        ∙ ap (packets_of_kind (service_in (plan_fields plan) version k).kind (service_in (plan_fields plan) version k).unicast counter schedule) (sym same_list);
    behind_is = begun.behind_is;
    shape_is = begun.shape_is ∙ ap shape_of (sym same_kind);
    sizes_are = begun.sizes_are ∙ ap₂ burst_sizes (sym same_kind) (sym same_list);
    none = begun.none;
    most = begun.most;
  }
