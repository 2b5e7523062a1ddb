-- In each part that stands so, the records of the slots so far are written or held back, and all stands before the next one.
use Rattle.std.proofs.Common.{◌≡◌, ℕ, ◌+◌, ◌-◌, ◌≤◌, List, Option, length}
use Rattle.wire_spec.specs.Content.{Stays}
use Rattle.plan.specs.PlanView.{plan_fields}
use Rattle.stream_spec.specs.Parts.{PartFields}
use Rattle.stream_spec.specs.Stream.{whole_cycles}
use Rattle.stream_batch.specs.Handing.{full_batch}
use Rattle.ts_mux.specs.Slots.{StandBefore, AreHanded}
use Rattle.ts_mux.proofs.slots.fill_cycle.Given as goal

abbrev pub invariant-loop-slot : goal.invariant-loop-slot
invariant-loop-slot g l = record {
  stand : (part : PartFields) (place : ℕ) → StandBefore (plan_fields l.plan) part place l.from l.fn.services l.fn.table
      → StandBefore (plan_fields l.plan) part (place + (l.slot - l.from)) l.slot l.services l.table;
  handed : (part : PartFields) (place : ℕ) (held : Option (List ℕ)) (before : List ℕ) → StandBefore (plan_fields l.plan) part place l.from l.fn.services l.fn.table
      → AreHanded part place held (g.K.Sink.told l.fn.sink).held before l.fn.batch → AreHanded part (place + (l.slot - l.from)) held (g.K.Sink.told l.sink).held before l.batch;
  from : l.from ≤ l.slot;
  most : l.slot ≤ whole_cycles l.plan.cycle l.from;
  room : length l.batch ≤ full_batch;
  behind : l.services.behind ≡ l.fn.services.behind;
  flushed : Stays (g.K.Sink.told l.fn.sink).flushed (g.K.Sink.told l.sink).flushed;
  same : (g.K.Sink.told l.sink).faults ≡ (g.K.Sink.told l.fn.sink).faults;
}

abbrev pub decreases-loop-slot : goal.decreases-loop-slot
decreases-loop-slot g l = whole_cycles l.plan.cycle l.from - l.slot
