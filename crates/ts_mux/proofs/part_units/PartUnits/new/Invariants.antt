-- The units of the first services, whose numbers went on.
use Rattle.std.proofs.Common.{◌≡◌, ℕ, ◌+◌, ◌<◌, ◌≤◌, List, [], length, get_or, Some}
use Rattle.std.specs.Prelude.{slice_get, slice_index}
use Rattle.plan_spec.specs.Plan.{ServiceFields}
use Rattle.plan.specs.PlanView.{plan_fields}
use Rattle.ts_mux.specs.ServiceUnits.{AreUnitsFor}
use Rattle.ts_mux.specs.Services.{frames_before}
use Rattle.ts_mux.specs.declared.service_units.ServiceUnits.{ServiceUnits}
use Rattle.ts_mux.proofs.part_units.PartUnits.new.Given as goal

abbrev pub invariant-loop-k : goal.invariant-loop-k
invariant-loop-k l = record {
  size : length l.units.items ≡ l.k;
  each : (k : ℕ) (service : ServiceFields) (datagrams : List (List ℕ)) (units : ServiceUnits) → slice_get (plan_fields l.plan).services k ≡ Some service
      → slice_get (get_or l.lists l.version []) k ≡ Some datagrams → slice_get l.units.items k ≡ Some units
      → AreUnitsFor service.kind service.unicast (frames_before (plan_fields l.plan) l.lists l.version k) datagrams units;
  long : length l.numbers ≡ length (plan_fields l.plan).services;
  done : (k : ℕ) → k < l.k → slice_index l.numbers k ≡ frames_before (plan_fields l.plan) l.lists (l.version + 1) k;
  left : (k : ℕ) → l.k ≤ k → k < length (plan_fields l.plan).services → slice_index l.numbers k ≡ frames_before (plan_fields l.plan) l.lists l.version k;
}
