-- The first services begin version 0.
use Rattle.std.proofs.Common.{◌≡◌, ℕ, length, Some}
use Rattle.std.specs.Prelude.{slice_get}
use Rattle.plan.specs.PlanView.{plan_fields}
use Rattle.ts_mux.specs.Services.{BeginsIn}
use Rattle.ts_mux.specs.declared.service_packets.ServicePackets.{ServicePackets}
use Rattle.ts_mux.proofs.services.Services.new.Given as goal

abbrev pub invariant-loop-k : goal.invariant-loop-k
invariant-loop-k l = record {
  size : length l.services.items ≡ l.k;
  each : (k : ℕ) (it : ServicePackets) → slice_get l.services.items k ≡ Some it → BeginsIn (plan_fields l.plan) 0 k l.lists 0 0 it;
}
