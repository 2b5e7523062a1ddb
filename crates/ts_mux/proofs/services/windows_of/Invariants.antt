-- The windows of the first services, before those of the others.
use Rattle.std.proofs.Common.{◌≡◌, ◌++◌, drop}
use Rattle.plan_spec.specs.Plan.{kinds}
use Rattle.plan.specs.PlanView.{plan_fields}
use Rattle.stream_spec.specs.Windows.{windows_from, windows_of}
use Rattle.time_slice.specs.Views.{windows_in}
use Rattle.ts_mux.proofs.services.windows_of.Given as goal

abbrev pub invariant-loop-k : goal.invariant-loop-k
invariant-loop-k l = windows_in l.windows.items ++ windows_from l.k (drop l.k (kinds (plan_fields l.plan))) ≡ windows_of (plan_fields l.plan)
