-- In each part that begins so, the records of the slots so far are written or held back, and all stands before the next one.
use Rattle.std.proofs.Common.{◌≡◌, ◌-◌, ◌^◌, ◌≤◌, length}
use Rattle.wire_spec.specs.Content.{Stays}
use Rattle.plan.specs.PlanView.{plan_fields}
use Rattle.stream_spec.specs.Parts.{PartFields}
use Rattle.stream_batch.specs.Handing.{full_batch}
use Rattle.ts_mux.specs.Slots.{StandBefore}
use Rattle.ts_mux.proofs.Ended.{IsUnderWay}
use Rattle.ts_mux.proofs.Turned.{IsTurn}
use Rattle.ts_mux.proofs.slots.put_packets.Given as goal

abbrev pub invariant-loop-turn : goal.invariant-loop-turn
invariant-loop-turn g l = record {
  under_way : (part : PartFields) → StandBefore (plan_fields l.plan) part 0 l.first l.fn.services l.fn.table
      → IsUnderWay (plan_fields l.plan) part (l.slot - l.first) l.slot (g.K.Sink.told l.fn.sink).held (g.K.Sink.told l.sink).held l.fn.batch l.batch l.services l.table;
  turn : IsTurn l.services l.turn;
  from : l.first ≤ l.slot;
  room : length l.batch ≤ full_batch;
  behind : l.services.behind ≡ l.fn.services.behind;
  flushed : Stays (g.K.Sink.told l.fn.sink).flushed (g.K.Sink.told l.sink).flushed;
  same : (g.K.Sink.told l.sink).faults ≡ (g.K.Sink.told l.fn.sink).faults;
}

abbrev pub decreases-loop-turn : goal.decreases-loop-turn
decreases-loop-turn g l = 2 ^ 64 - l.slot
