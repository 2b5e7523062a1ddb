-- The kinds of an accepted plan: frames have rows and columns as there are.
use Rattle.std.proofs.Common.{◌≡◌, inl, inr, ℕ, zero, suc, ◌≤◌, Bool, true, false, ◌&&◌, ◌||◌, eqb, get_or, List, [], ◌∷◌, map, refl, sym, arith}
use Rattle.std.specs.List.{list_all}
use Rattle.std.proofs.lemmas.Bool.{eqb-true}
use Rattle.section_spec.specs.Mpe.{IsRows}
use Rattle.plan_spec.specs.Plan.{KindFields, ule, mpe, fec, gse, ServiceFields, PlanFields}
use Rattle.plan_spec.specs.Checks.{is_between, is_row_count}
use Rattle.plan_spec.specs.Valid.{is_valid_window, is_valid_kind, is_valid_service, is_plan}
use Rattle.stream_spec.specs.Services.{kind_at}
use Rattle.stream_law.proofs.Plans.{both, at_most, at_least, has_ranges, ranges}

-- frames of rows and columns that there are
abbrev pub HasFrames : KindFields → Type 0
HasFrames (ule pid address packing) = Unit {0}
HasFrames (mpe pid) = Unit {0}
HasFrames (fec pid rows parity window) = IsRows rows × (1 ≤ parity) × (parity ≤ 64)
HasFrames (gse isi address) = Unit {0}

are_rows : (rows : ℕ) → is_row_count rows ≡ true → IsRows rows
are_rows rows e = by_tests (eqb 256 rows) refl (eqb 512 rows) refl (eqb 768 rows) refl (eqb 1024 rows) refl e
  where
    by_tests : (a : Bool) → eqb 256 rows ≡ a → (b : Bool) → eqb 512 rows ≡ b → (c : Bool) → eqb 768 rows ≡ c → (d : Bool) → eqb 1024 rows ≡ d
        → (a || (b || (c || (d || false)))) ≡ true → IsRows rows
    by_tests true e1 b e2 c e3 d e4 any = inl (sym (eqb-true 256 rows e1))
    by_tests false e1 true e2 c e3 d e4 any = inr (inl (sym (eqb-true 512 rows e2)))
    by_tests false e1 false e2 true e3 d e4 any = inr (inr (inl (sym (eqb-true 768 rows e3))))
    by_tests false e1 false e2 false e3 true e4 any = inr (inr (inr (sym (eqb-true 1024 rows e4))))
    by_tests false e1 false e2 false e3 false e4 any = absurd (cc)

kind_has : (least : ℕ) (kind : KindFields) → is_valid_kind least kind ≡ true → HasFrames kind
kind_has least (ule pid address packing) e = tt
kind_has least (mpe pid) e = tt
kind_has least (fec pid rows parity window) e =
    let rest : (is_row_count rows && (is_between 1 64 parity && is_valid_window window)) ≡ true
    = (both (is_between least 8190 pid) (is_row_count rows && (is_between 1 64 parity && is_valid_window window)) e).1 in
    let columns : is_between 1 64 parity ≡ true
    = (both (is_between 1 64 parity) (is_valid_window window) (both (is_row_count rows) (is_between 1 64 parity && is_valid_window window) rest).1).0 in (
      are_rows rows (both (is_row_count rows) (is_between 1 64 parity && is_valid_window window) rest).0,
      at_least 1 64 parity columns,
      at_most 1 64 parity columns,
    )
kind_has least (gse isi address) e = tt

services_have : (least : ℕ) (services : List ServiceFields) → list_all (is_valid_service least) services ≡ true → (k : ℕ)
    → HasFrames (get_or (map (λ (service : ServiceFields). service.kind) services) k (mpe 0))
services_have least [] all k = tt
services_have least (service ∷ services) all zero =
    kind_has least service.kind (has_ranges least service (both (is_valid_service least service) (list_all (is_valid_service least) services) all).0).kind
services_have least (service ∷ services) all (suc k) =
    services_have least services (both (is_valid_service least service) (list_all (is_valid_service least) services) all).1 k

pub kind_has_frames : (plan : PlanFields) → is_plan plan ≡ true → (k : ℕ) → HasFrames (kind_at plan k)
kind_has_frames plan accepted k = services_have (ranges plan accepted).least plan.services (ranges plan accepted).services k

pub rows_within : (rows : ℕ) → IsRows rows → (256 ≤ rows) × (rows ≤ 1024)
rows_within rows (inl e) = (omega (arith, e), omega (arith, e))
rows_within rows (inr (inl e)) = (omega (arith, e), omega (arith, e))
rows_within rows (inr (inr (inl e))) = (omega (arith, e), omega (arith, e))
rows_within rows (inr (inr (inr e))) = (omega (arith, e), omega (arith, e))
