-- The first services begin their part, and the others have no packets left.
use Rattle.std.proofs.Common.{◌≡◌, ℕ, ◌<◌, ◌≤◌, [], length, Some}
use Rattle.std.specs.Prelude.{slice_get, slice_index}
use Rattle.plan.specs.PlanView.{plan_fields}
use Rattle.stream_spec.specs.Services.{kind_at}
use Rattle.time_slice.specs.Views.{windows_in}
use Rattle.ts_mux.specs.Services.{packets_in, behind_in, shape_in, shape_of, counter_at, BeginsIn}
use Rattle.ts_mux.specs.declared.service_packets.ServicePackets.{ServicePackets}
use Rattle.ts_mux.proofs.services.Services.begin.Given as goal

abbrev pub invariant-loop-k : goal.invariant-loop-k
invariant-loop-k l = record {
  size : length l.self-inside.services.items ≡ length l.plan.services;
  made : (j : ℕ) (it : ServicePackets) → j < l.k → slice_get l.self-inside.services.items j ≡ Some it
      → BeginsIn (plan_fields l.plan) l.version j l.lists (counter_at (plan_fields l.plan) l.version l.fn.self.behind j) l.before it;
  rest : (j : ℕ) (it : ServicePackets) → l.k ≤ j → slice_get l.self-inside.services.items j ≡ Some it
      → (packets_in it ≡ []) × (behind_in it ≡ slice_index l.fn.self.behind j) × (shape_in it ≡ shape_of (kind_at (plan_fields l.plan) j));
  windows : windows_in l.self-inside.windows.items ≡ l.fn.self.windows;
}
