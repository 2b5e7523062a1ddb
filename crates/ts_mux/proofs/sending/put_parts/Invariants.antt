-- The parts of the versions before this one are written or held back, and all stands behind the last of them.
use Rattle.std.proofs.Common.{◌≡◌, ℕ, ◌-◌, ◌*◌, ◌≤◌, List, length}
use Rattle.wire_spec.specs.Content.{Stays}
use Rattle.plan.specs.PlanView.{plan_fields}
use Rattle.stream_batch.specs.Handing.{full_batch}
use Rattle.ts_mux.specs.Services.{left_in}
use Rattle.ts_mux.specs.Sending.{AreDatagrams}
use Rattle.ts_mux.proofs.Parted.{IsBehind}
use Rattle.ts_mux.proofs.Staged.{slots_of}
use Rattle.ts_mux.proofs.sending.put_parts.Given as goal

abbrev pub invariant-loop-version : goal.invariant-loop-version
invariant-loop-version g l = record {
  behind : (datagrams : ℕ → ℕ → List (List ℕ)) → AreDatagrams (plan_fields l.plan) datagrams l.lists
      → IsBehind (plan_fields l.plan) datagrams (slots_of (plan_fields l.plan) l.plan.whole datagrams) (l.version - 1) l.slot
      (g.K.Sink.told l.fn.sink).held (g.K.Sink.told l.sink).held l.batch l.services l.table;
  few : l.slot ≤ l.version * 400000000000000000;
  out : left_in l.services ≡ 0;
  room : length l.batch ≤ full_batch;
  flushed : Stays (g.K.Sink.told l.fn.sink).flushed (g.K.Sink.told l.sink).flushed;
  same : (g.K.Sink.told l.sink).faults ≡ (g.K.Sink.told l.fn.sink).faults;
}
