-- What a part is sent from.
use Rattle.std.specs.Prelude.{◌≡◌, ◌≤◌, ◌<◌, ◌^◌, ℕ, List, length, slice_index, Some}
use Rattle.plan_spec.specs.Plan.{IntFields, PlanFields}
use Rattle.plan_spec.specs.Changes.{plan_in}
use Rattle.plan_spec.specs.Signalling.{table_of}
use Rattle.int_spec.specs.Table.{table_bytes}
use Rattle.ts_mux.specs.Services.{AreLists, frames_before}
use Rattle.ts_mux.specs.declared.service_units.ServiceUnits.{ServiceUnits}

-- the units of each service, and the section of the INT
pub record MadeUnits : Type 0 where
  pub units : List ServiceUnits
  pub section : List ℕ

-- they are those of these lists in a version, where the first frames of the services have these numbers
pub record AreUnitsOf (plan : PlanFields) (version : ℕ) (numbers : ℕ → ℕ) (lists : List (List (List ℕ))) (made : MadeUnits) : Type 0 where
  pub lists_are : AreLists plan numbers lists made.units
  pub section_is : (int : IntFields) → plan.table ≡ Some int → made.section ≡ table_bytes (table_of (plan_in plan version) int)
  pub short : length made.section ≤ 4096

-- the numbers of the first frames of the services in the part of a version
pub record AreNumbers (plan : PlanFields) (lists : List (List (List (List ℕ)))) (version : ℕ) (numbers : List ℕ) : Type 0 where
  pub size : length numbers ≡ length plan.services
  pub each : (k : ℕ) → k < length plan.services → slice_index numbers k ≡ frames_before plan lists version k

-- each service has fewer than 2^32 frames in the versions before one
abbrev pub FewFrames : PlanFields → List (List (List (List ℕ))) → ℕ → Type 0
FewFrames plan lists version = (k : ℕ) → k < length plan.services → frames_before plan lists version k < 2 ^ 32
