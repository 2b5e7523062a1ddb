-- How many frames a service has: in one version, and in those before one.
use Rattle.std.proofs.Common.{◌≡◌, ℕ, zero, suc, ◌+◌, ◌≤◌, Bool, true, false, cond, List, [], ◌∷◌, ◌++◌, length, get_or, refl, sym, ap, ◌∙◌, arith, Some, None}
use Rattle.std.specs.Prelude.{slice_get, sum_by}
use Rattle.std.specs.List.{fold, range_with_len}
use Rattle.std.proofs.lemmas.List.Sums.{sum_by-cons}
use Rattle.fec_frame_spec.specs.Sender.{fits_table, with_datagram}
use Rattle.plan_spec.specs.Plan.{KindFields, ule, mpe, fec, gse, ServiceFields, PlanFields, kinds}
use Rattle.plan_spec.specs.Changes.{service_in}
use Rattle.plan.specs.Parts.{kind_seen, service_seen}
use Rattle.plan.specs.PlanView.{plan_fields}
use Rattle.plan.specs.declared.service.Service.{Service}
use Rattle.plan.specs.declared.plan.Plan.{Plan}
use Rattle.stream_spec.specs.Units.{fits_window, frame_count}
use Rattle.stream_spec.specs.Services.{kind_at}
use Rattle.stream_spec.specs.Stream.{frame_count_in}
use Rattle.stream_law.proofs.Kept.{kind_of_version, frame_count_kept}
use Rattle.stream_law.proofs.Ranges.{sum_next}
use Rattle.ts_mux.specs.Services.{listed, frames_before}
use Rattle.datagram_routing.specs.Offering.{datagram_count}
use Rattle.ts_mux.proofs.Items.{map_at}

pub item_is : {X : Type 0} (xs : List X) (i : ℕ) (x d : X) → slice_get xs i ≡ Some x → get_or xs i d ≡ x
item_is [] i x d e = absurd (cc)
item_is (y ∷ xs) zero x d e = cc
item_is (y ∷ xs) (suc i) x d e = item_is xs i x d e

-- a frame has one datagram at least
one_more : (fits : List (List ℕ) → Bool) (frames : List (List (List ℕ))) (d : List ℕ) → length (with_datagram fits frames d) ≤ length frames + 1
one_more fits [] d = omega arith
one_more fits (last ∷ []) d = by_fit (fits (last ++ d ∷ []))
  where
    by_fit : (b : Bool) → length (cond b ((last ++ d ∷ []) ∷ []) (last ∷ (d ∷ []) ∷ [])) ≤ length (last ∷ []) + 1
    by_fit true = omega arith
    by_fit false = omega arith
one_more fits (frame ∷ next ∷ others) d = omega (arith, one_more fits (next ∷ others) d)

all_more : (fits : List (List ℕ) → Bool) (ds : List (List ℕ)) (frames : List (List (List ℕ))) → length (fold (with_datagram fits) frames ds) ≤ length frames + length ds
all_more fits [] frames = omega arith
all_more fits (d ∷ ds) frames = omega (arith, all_more fits ds (with_datagram fits frames d), one_more fits frames d)

pub frames_most : (kind : KindFields) (ds : List (List ℕ)) → frame_count kind ds ≤ length ds
frames_most (ule pid address packing) ds = omega arith
frames_most (mpe pid) ds = omega arith
frames_most (fec pid rows parity None) ds = omega (arith, all_more (fits_table rows) ds [])
frames_most (fec pid rows parity (Some window)) ds = omega (arith, all_more (fits_window rows parity window.length) ds [])
frames_most (gse isi address) ds = omega arith

-- a version more
pub frames_next : (plan : Plan) (lists : List (List (List (List ℕ)))) (version k : ℕ) (service : Service) (ds : List (List ℕ)) → slice_get plan.services k ≡ Some service
    → slice_get (get_or lists version []) k ≡ Some ds
    → frames_before (plan_fields plan) lists (version + 1) k ≡ frames_before (plan_fields plan) lists version k + frame_count (kind_seen service.kind) ds
frames_next plan lists version k service ds found there =
    sum_next (frame_count_in (plan_fields plan) (listed lists) k) version
    ∙ ap (λ (n : ℕ). frames_before (plan_fields plan) lists version k + n) here
  where
    kind_is : kind_at (plan_fields plan) k ≡ kind_seen service.kind
    kind_is =
        item_is (kinds (plan_fields plan)) k (kind_seen service.kind) (mpe 0)
        (map_at (λ (s : ServiceFields). s.kind) (plan_fields plan).services k (service_seen service) (map_at service_seen plan.services k service found))

    here : frame_count_in (plan_fields plan) (listed lists) k version ≡ frame_count (kind_seen service.kind) ds
    here =
        ap (λ (l : List (List ℕ)). frame_count (service_in (plan_fields plan) version k).kind l) (item_is (get_or lists version []) k ds [] there)
        ∙ ap (λ (kind : KindFields). frame_count kind ds) (sym (kind_of_version (plan_fields plan) version k))
        ∙ frame_count_kept (plan_fields plan) version k ds
        ∙ ap (λ (kind : KindFields). frame_count kind ds) kind_is

-- There are few.

sums : {X : Type 0} (f : ℕ → ℕ) (g : X → ℕ) (xs : List X) (i n : ℕ) → n ≤ length xs → ((j at : ℕ) (x : X) → at ≡ i + j → slice_get xs j ≡ Some x → f at ≤ g x)
    → sum_by f (range_with_len i n) ≤ sum_by g xs
sums f g xs i zero le each = omega arith
sums f g [] i (suc n) le each = absurd (omega (arith, le))
sums f g (x ∷ xs) i (suc n) le each =
    omega (
      arith,
      sum_by-cons f i (range_with_len (i + 1) n),
      sum_by-cons g x xs,
      each 0 i x (omega arith) refl,
      sums f g xs (i + 1) n (omega (arith, le)) (λ j at y e found. each (suc j) at y (omega (arith, e)) found),
    )

one_of : (lists : List (List (List ℕ))) (k : ℕ) → length (get_or lists k []) ≤ sum_by (λ (list : List (List ℕ)). length list) lists
one_of [] k = omega arith
one_of (first ∷ lists) zero = omega (arith, sum_by-cons (λ (l : List (List ℕ)). length l) first lists)
one_of (first ∷ lists) (suc k) = omega (arith, sum_by-cons (λ (l : List (List ℕ)). length l) first lists, one_of lists k)

pub few_frames : (plan : PlanFields) (lists : List (List (List (List ℕ)))) (version k : ℕ) → version ≤ length lists → frames_before plan lists version k ≤ datagram_count lists
few_frames plan lists version k le =
    sums (frame_count_in plan (listed lists) k) (λ (services : List (List (List ℕ))). sum_by (λ (list : List (List ℕ)). length list) services) lists 0 version le
    (λ j at services e found.
    let here : j ≡ at = omega (arith, e) in
    let is : get_or lists at [] ≡ services = ap (λ (n : ℕ). get_or lists n []) (sym here) ∙ item_is lists j services [] found in
    omega (
      arith,
      frames_most (service_in plan at k).kind (listed lists at k),
      one_of (get_or lists at []) k,
      ap (λ (l : List (List (List ℕ))). sum_by (λ (list : List (List ℕ)). length list) l) is,
    ))
