use Rattle.std.proofs.Common.{arith}
use Rattle.std.proofs.lemmas.Result.{err_from_is_err_and}
use Rattle.plan_spec.specs.Plan.{PlanFields}
use Rattle.plan.specs.PlanView.{plan_fields}
use Rattle.ts_mux.specs.Slots.{slots_with}
use Rattle.ts_mux.proofs.Filled.{prefix_more, slots_more}
use Rattle.ts_mux.proofs.slots.put_slots.Goals as goal

pub fill_cycle-requires-clause-stand : goal.fill_cycle-requires-clause-stand
fill_cycle-requires-clause-stand g c =
    let wrote = c.in_ok-slot.ensures.written c.requires.stand.0 c.requires.stand.1 in
    (c.requires.stand.0, wrote.least, wrote.stand, wrote.count.over)

-- the end of the last cycle has a number too
pub fill_cycle-requires-clause-few : goal.fill_cycle-requires-clause-few
fill_cycle-requires-clause-few g c =
    let wrote = c.in_ok-slot.ensures.written c.requires.stand.0 c.requires.stand.1 in
    omega (arith, c.requires.stand.2 wrote.least wrote.count, wrote.stand.place, c.requires.stand.1.place)

pub returns-in_err-slot-clause-written : goal.returns-in_err-slot-clause-written
returns-in_err-slot-clause-written g c = λ part begins.
    let plan : PlanFields = plan_fields c.args.plan.now in
    let failed = err_from_is_err_and c.from_residual.result c.from_residual.ensures.1 in
    let wrote = c.in_err-slot.ensures.written part begins in
    rw failed.1 (record {
      least = wrote.least;
      count = wrote.count;
      passes = prefix_more part wrote.least (slots_with c.args.fills part.plan.cycle wrote.least) (g.K.Sink.told c.args.sink.now).held (g.K.Sink.told c.put_packets.new.sink).held c.args.batch.now
          (slots_more plan c.args.plan.now.whole part begins.of_plan c.args.fills wrote.least) wrote.passes;
      stand = tt;
    })

pub returns-then-fills-clause-written : goal.returns-then-fills-clause-written
returns-then-fills-clause-written g c = λ part begins.
    let wrote = c.in_ok-slot.ensures.written part begins in
    let filled = c.fill_cycle.ensures.filled part wrote.least (g.K.Sink.told c.args.sink.now).held c.args.batch.now wrote.stand
    (record { front = wrote.passes.0; appended = wrote.passes.1; bytes_are = wrote.passes.2 }) in
    rw c.if-fills.true (record { least = wrote.least; count = wrote.count; passes = filled.passes; stand = filled.stand })
