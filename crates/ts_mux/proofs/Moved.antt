-- A service of a plan in a version: all but its PID and its rules stays.
use Rattle.std.proofs.Common.{◌≡◌, ℕ, zero, suc, ◌<◌, ◌≤◌, ◌&&◌, true, List, [], ◌∷◌, length, take, get_or, refl, ap, subst, sym, ◌∙◌, arith, Option, Some, None}
use Rattle.std.specs.Prelude.{slice_get}
use Rattle.std.proofs.lemmas.List.{length-map}
use Rattle.std.proofs.lemmas.Option.{slice_get_within}
use Rattle.plan_spec.specs.Plan.{KindFields, ule, mpe, fec, gse, ServiceFields, MovedFields, kinds, pid_of}
use Rattle.plan_spec.specs.Changes.{with_pid, no_service, services_in, service_in, pid_in, plan_in}
use Rattle.ts_mux.specs.OnPids.{is_on_pid}
use Rattle.plan_spec.specs.Signalling.{slices_of}
use Rattle.plan_spec.specs.Checks.{is_between, is_row_count}
use Rattle.plan_spec.specs.Valid.{is_valid_window, is_valid_kind, is_valid_service, is_plan}
use Rattle.plan_spec.specs.Wholes.{is_whole_plan}
use Rattle.stream_law.proofs.Plans.{both, at_most, ranges, has_ranges}
use Rattle.stream_law.proofs.Wholes.{version_accepted}
use Rattle.stream_law.proofs.KindRanges.{kind_has_frames}
use Rattle.ts_mux.specs.ServiceUnits.{HasFrames}
use Rattle.ts_mux.proofs.Items.{list_all_at, map_at}
use Rattle.plan.specs.Parts.{kind_seen, service_seen, change_seen}
use Rattle.plan.specs.Moves.{last_move, moves_of}
use Rattle.plan.specs.PlanView.{plan_fields}
use Rattle.plan.specs.declared.service.Service.{Service}
use Rattle.plan.specs.declared.plan.Plan.{Plan}
use Rattle.plan.proofs.VersionLemmas.{moved_so, moved_service, length-services_in}

-- what stays
pub record Stays (old new : ServiceFields) : Type 0 where
  pub service_id : new.service_id ≡ old.service_id
  pub component_tag : new.component_tag ≡ old.component_tag
  pub unicast : new.unicast ≡ old.unicast
  pub on_pid : is_on_pid new.kind ≡ is_on_pid old.kind
  pub slices : (rate : ℕ) → slices_of rate new.kind ≡ slices_of rate old.kind

on_pid_moved : (kind : KindFields) (pid : ℕ) → is_on_pid (with_pid kind pid) ≡ is_on_pid kind
on_pid_moved (ule old address packing) pid = refl
on_pid_moved (mpe old) pid = refl
on_pid_moved (fec old rows parity window) pid = refl
on_pid_moved (gse isi address) pid = refl

slices_moved : (kind : KindFields) (pid rate : ℕ) → slices_of rate (with_pid kind pid) ≡ slices_of rate kind
slices_moved (ule old address packing) pid rate = refl
slices_moved (mpe old) pid rate = refl
slices_moved (fec old rows parity window) pid rate = refl
slices_moved (gse isi address) pid rate = refl

stays_moved : (service : ServiceFields) (found : Option MovedFields) → Stays service (moved_so service found)
stays_moved service None = record { service_id = refl; component_tag = refl; unicast = refl; on_pid = refl; slices = λ rate. refl }
stays_moved service (Some moved) = record { service_id = refl; component_tag = refl; unicast = refl; on_pid = on_pid_moved service.kind moved.pid; slices = slices_moved service.kind moved.pid }

-- on its own PID a kind is as it was
own_pid : (kind : KindFields) (pid : ℕ) → pid_of kind ≡ Some pid → kind ≡ with_pid kind pid
own_pid (ule own address packing) pid e = let same : own ≡ pid = cc in ap (λ (n : ℕ). ule n address packing) same
own_pid (mpe own) pid e = let same : own ≡ pid = cc in ap (λ (n : ℕ). mpe n) same
own_pid (fec own rows parity window) pid e = let same : own ≡ pid = cc in ap (λ (n : ℕ). fec n rows parity window) same
own_pid (gse isi address) pid e = absurd (cc)

kind_moved : (kind : KindFields) (other pid : ℕ) → pid_of (with_pid kind other) ≡ Some pid → with_pid kind other ≡ with_pid kind pid
kind_moved (ule own address packing) other pid e = let same : other ≡ pid = cc in ap (λ (n : ℕ). ule n address packing) same
kind_moved (mpe own) other pid e = let same : other ≡ pid = cc in ap (λ (n : ℕ). mpe n) same
kind_moved (fec own rows parity window) other pid e = let same : other ≡ pid = cc in ap (λ (n : ℕ). fec n rows parity window) same
kind_moved (gse isi address) other pid e = absurd (cc)

kind_so : (service : ServiceFields) (found : Option MovedFields) (pid : ℕ) → pid_of (moved_so service found).kind ≡ Some pid → (moved_so service found).kind ≡ with_pid service.kind pid
kind_so service None pid e = own_pid service.kind pid e
kind_so service (Some moved) pid e = kind_moved service.kind moved.pid pid e

some_pid : (kind : KindFields) → is_on_pid kind ≡ true → pid_of kind ≡ None → ⊥
some_pid (ule own address packing) sent e = absurd (cc)
some_pid (mpe own) sent e = absurd (cc)
some_pid (fec own rows parity window) sent e = absurd (cc)
some_pid (gse isi address) sent e = absurd (cc)

is_pid : (least : ℕ) (kind : KindFields) (pid : ℕ) → is_valid_kind least kind ≡ true → pid_of kind ≡ Some pid → pid ≤ 8191
is_pid least (ule own address packing) pid valid e = let same : own ≡ pid = cc in omega (arith, at_most least 8190 own valid, same)
is_pid least (mpe own) pid valid e = let same : own ≡ pid = cc in omega (arith, at_most least 8190 own valid, same)
is_pid least (fec own rows parity window) pid valid e =
    let same : own ≡ pid = cc in
    omega (arith, at_most least 8190 own (both (is_between least 8190 own) (is_row_count rows && (is_between 1 64 parity && is_valid_window window)) valid).0, same)
is_pid least (gse isi address) pid valid e = absurd (cc)

pub there_is : {X : Type 0} (xs : List X) (k : ℕ) (d : X) → k < length xs → slice_get xs k ≡ Some (get_or xs k d)
there_is [] k d less = absurd (omega (arith, less))
there_is (x ∷ xs) zero d less = refl
there_is (x ∷ xs) (suc k) d less = there_is xs k d (omega (arith, less))

-- an item within a list
pub some_item : {X : Type 0} (xs : List X) (k : ℕ) → k < length xs → (x : X) × (slice_get xs k ≡ Some x)
some_item [] k less = absurd (omega (arith, less))
some_item (x ∷ xs) zero less = (x, refl)
some_item (x ∷ xs) (suc k) less = some_item xs k (omega (arith, less))

module _ (plan : Plan) (version k : ℕ) (service : Service) (found : slice_get plan.services k ≡ Some service) where
  pub stays_in : Stays (service_seen service) (service_in (plan_fields plan) version k)
  stays_in =
      subst (λ (s : ServiceFields). Stays (service_seen service) s) (sym (moved_service plan version k service found))
      (stays_moved (service_seen service) (last_move k None (moves_of (take version plan.changes))))

  pub found_in : slice_get (services_in (plan_fields plan) version) k ≡ Some (service_in (plan_fields plan) version k)
  found_in =
      there_is (services_in (plan_fields plan) version) k no_service
      (omega (arith, length-services_in (plan_fields plan) version, length-map plan.services service_seen, slice_get_within plan.services k service found))

  -- its kind is on the PID that it has in the version
  pub kind_in : (pid : ℕ) → pid_in (plan_fields plan) version k ≡ Some pid → (service_in (plan_fields plan) version k).kind ≡ with_pid (kind_seen service.kind) pid
  unfolding pid_in
  kind_in pid e =
      let same = moved_service plan version k service found in
      ap (λ (s : ServiceFields). s.kind) same
      ∙ kind_so (service_seen service) (last_move k None (moves_of (take version plan.changes))) pid (ap (λ (s : ServiceFields). pid_of s.kind) (sym same) ∙ e)

  -- and that is a PID
  pub pid_most : is_whole_plan (plan_fields plan) ≡ true → version ≤ length (plan_fields plan).changes → (pid : ℕ) → pid_in (plan_fields plan) version k ≡ Some pid → pid ≤ 8191
  unfolding pid_in
  pid_most whole within pid e =
      let accepted : is_plan (plan_in (plan_fields plan) version) ≡ true = version_accepted (plan_fields plan) whole version within in
      let least : ℕ = (ranges (plan_in (plan_fields plan) version) accepted).least in
      is_pid least (service_in (plan_fields plan) version k).kind pid
      (has_ranges least (service_in (plan_fields plan) version k)
      (list_all_at (is_valid_service least) (services_in (plan_fields plan) version) k (service_in (plan_fields plan) version k) found_in (ranges (plan_in (plan_fields plan) version) accepted).services)).kind e

  -- a service on PIDs has one
  pub has_pid_in : is_on_pid (kind_seen service.kind) ≡ true → pid_in (plan_fields plan) version k ≡ None → ⊥
  unfolding pid_in
  has_pid_in sent e = some_pid (service_in (plan_fields plan) version k).kind (stays_in.on_pid ∙ sent) e

-- a version of the code's plan
pub version_within : (plan : Plan) (version : ℕ) → version ≤ length plan.changes → version ≤ length (plan_fields plan).changes
version_within plan version le = omega (arith, le, length-map plan.changes change_seen)

-- a service with frames has rows and columns as there are
pub frames_at : (plan : Plan) (k : ℕ) (service : Service) → slice_get plan.services k ≡ Some service → HasFrames (kind_seen service.kind)
frames_at plan k service found =
    subst HasFrames (kind_there (kinds (plan_fields plan)) k (kind_seen service.kind)
    (map_at (λ (s : ServiceFields). s.kind) (plan_fields plan).services k (service_seen service) (map_at service_seen plan.services k service found)))
    (kind_has_frames (plan_fields plan) plan.valid k)
  where
    kind_there : (kinds : List KindFields) (i : ℕ) (kind : KindFields) → slice_get kinds i ≡ Some kind → get_or kinds i (mpe 0) ≡ kind
    kind_there [] i kind e = absurd (cc)
    kind_there (first ∷ kinds) zero kind e = cc
    kind_there (first ∷ kinds) (suc i) kind e = kind_there kinds i kind e
