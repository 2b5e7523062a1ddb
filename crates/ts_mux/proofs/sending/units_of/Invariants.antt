-- What the first parts are sent from.
use Rattle.std.proofs.Common.{◌≡◌, ℕ, [], length, get_or, Some}
use Rattle.std.specs.Prelude.{slice_get}
use Rattle.plan.specs.PlanView.{plan_fields}
use Rattle.ts_mux.specs.PartUnits.{MadeUnits, AreUnitsOf, AreNumbers}
use Rattle.ts_mux.specs.Services.{frames_before}
use Rattle.ts_mux.proofs.sending.units_of.Given as goal

abbrev pub invariant-loop-version : goal.invariant-loop-version
invariant-loop-version l = record {
  size : length l.units.items ≡ l.version;
  numbers : AreNumbers (plan_fields l.plan) l.lists l.version l.numbers.items;
  each : (version : ℕ) (made : MadeUnits) → slice_get l.units.items version ≡ Some made → AreUnitsOf (plan_fields l.plan) version (frames_before (plan_fields l.plan) l.lists version) (get_or l.lists version []) made;
}
