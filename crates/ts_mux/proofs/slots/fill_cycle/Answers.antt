use Rattle.std.proofs.Common.{◌≡◌, ◌+◌, ◌-◌, ◌%◌, ◌≤◌, ◌∙◌, ℕ, refl, sym, ap, arith, subst}
use Rattle.std.proofs.lemmas.Result.{err_from_is_err_and}
use Rattle.ipe_io.proofs.Told.{stays-refl, stays-trans}
use Rattle.plan_spec.specs.Plan.{PlanFields}
use Rattle.stream_spec.specs.Stream.{whole_cycles}
use Rattle.plan.specs.PlanView.{plan_fields}
use Rattle.plan.specs.declared.plan.Plan.{Plan}
use Rattle.stream_law.proofs.Plans.{ranges, at_least, at_most}
use Rattle.ts_mux.specs.Slots.{StandBefore, AreHanded}
use Rattle.ts_mux.proofs.Ended.{part_handed, added_bytes, one_handed}
use Rattle.ts_mux.proofs.Filled.{end_from, end_most, goes_up, is_there, none_turns, filled_to, filled_below}
use Rattle.ts_mux.proofs.slots.fill_cycle.Goals as goal

some_cycle : (plan : Plan) → 100 ≤ plan.cycle
some_cycle plan = at_least 100 1000000 plan.cycle (ranges (plan_fields plan) plan.valid).cycle

few_cycle : (plan : Plan) → plan.cycle ≤ 1000000
few_cycle plan = at_most 100 1000000 plan.cycle (ranges (plan_fields plan) plan.valid).cycle

-- the end of the cycle is not far
end_near : (plan : Plan) (from : ℕ) → whole_cycles plan.cycle from ≤ from + 1000000
end_near plan from = omega (arith, some_cycle plan, few_cycle plan, end_most plan.cycle (omega (arith, some_cycle plan)) from)

one_more : (place from slot : ℕ) → from ≤ slot → place + (slot - from) + 1 ≡ place + (slot + 1 - from)
one_more place from slot le = omega (arith, le)

no_more : (place from : ℕ) → place ≡ place + (from - from)
no_more place from = omega arith

pub loop-slot-init : goal.loop-slot-init
loop-slot-init g c = record {
  stand = λ part place stand.
      subst (λ (n : ℕ). StandBefore (plan_fields c.args.plan.now) part n c.args.from c.args.services.now c.args.table.now) (no_more place c.args.from) stand;
  handed = λ part place held before stand handed.
      subst (λ (n : ℕ). AreHanded part n held (g.K.Sink.told c.args.sink.now).held before c.args.batch.now) (no_more place c.args.from) handed;
  from = omega arith;
  most = end_from c.args.plan.now.cycle (omega (arith, some_cycle c.args.plan.now)) c.args.from;
  room = c.requires.room;
  behind = refl;
  flushed = stays-refl (g.K.Sink.told c.args.sink.now).flushed;
  same = refl;
}

pub loop-slot-preserved : goal.loop-slot-preserved
loop-slot-preserved g c = record {
  stand = λ part place begins.
      let now = c.loop-slot.invariant.stand part place begins in
      subst (λ (n : ℕ). StandBefore (plan_fields c.args.plan.now) part n (c.loop-slot.slot + 1) c.add_record.new.services c.add_record.new.table)
      (one_more place c.args.from c.loop-slot.slot c.loop-slot.invariant.from) (c.add_record.ensures.added part (place + (c.loop-slot.slot - c.args.from)) now).after;
  handed = λ part place held before begins handed.
      let at : ℕ = place + (c.loop-slot.slot - c.args.from) in
      let now = c.loop-slot.invariant.stand part place begins in
      subst (λ (n : ℕ). AreHanded part n held (g.K.Sink.told c.put_full.new.sink).held before c.put_full.new.self) (one_more place c.args.from c.loop-slot.slot c.loop-slot.invariant.from)
      (one_handed (plan_fields c.args.plan.now) part at c.loop-slot.slot c.add_record.new.services c.add_record.new.table held (g.K.Sink.told c.loop-slot.sink).held (g.K.Sink.told c.put_full.new.sink).held
      before c.loop-slot.batch c.add_record.new.batch (c.add_record.ensures.added part at now) (c.loop-slot.invariant.handed part place held before begins handed) c.put_full.new.self c.in_ok-put_full.ensures.handed);
  from = omega (arith, c.loop-slot.invariant.from);
  most = goes_up c.args.plan.now.cycle (omega (arith, some_cycle c.args.plan.now)) c.args.from c.loop-slot.slot c.loop-slot.invariant.most
      (λ e. c.loop-slot-test.true (ap (λ (n : ℕ). c.loop-slot.slot % n) c.from.ensures ∙ e));
  room = c.in_ok-put_full.ensures.room;
  behind = c.add_record.ensures.kept.1 ∙ c.loop-slot.invariant.behind;
  flushed = stays-trans (g.K.Sink.told c.args.sink.now).flushed (g.K.Sink.told c.loop-slot.sink).flushed (g.K.Sink.told c.put_full.new.sink).flushed c.loop-slot.invariant.flushed c.in_ok-put_full.ensures.flushed;
  same = c.in_ok-put_full.ensures.cause.kept ∙ c.loop-slot.invariant.same;
}

pub nonzero_rem-slot : goal.nonzero_rem-slot
nonzero_rem-slot g c = omega (arith, c.from.ensures, some_cycle c.args.plan.now)

pub add_record-requires-clause-stand : goal.add_record-requires-clause-stand
add_record-requires-clause-stand g c =
    (c.requires.stand.0, c.requires.stand.1 + (c.loop-slot.slot - c.args.from), c.loop-slot.invariant.stand c.requires.stand.0 c.requires.stand.1 c.requires.stand.2)

pub add_record-requires-clause-turn : goal.add_record-requires-clause-turn
add_record-requires-clause-turn g c =
    let stand = c.loop-slot.invariant.stand c.requires.stand.0 c.requires.stand.1 c.requires.stand.2 in
    none_turns (plan_fields c.args.plan.now) c.args.plan.now.whole c.requires.stand.0 c.requires.stand.1 (c.requires.stand.1 + (c.loop-slot.slot - c.args.from)) c.loop-slot.slot c.loop-slot.services c.loop-slot.table stand
    (omega arith) c.requires.stand.3

pub overflow_add-slot : goal.overflow_add-slot
overflow_add-slot g c = omega (
  arith,
  c.requires.few,
  c.loop-slot.invariant.most,
  end_near c.args.plan.now c.args.from,
  goes_up c.args.plan.now.cycle (omega (arith, some_cycle c.args.plan.now)) c.args.from c.loop-slot.slot c.loop-slot.invariant.most
      (λ e. c.loop-slot-test.true (ap (λ (n : ℕ). c.loop-slot.slot % n) c.from.ensures ∙ e)),
)

pub loop-slot-smaller : goal.loop-slot-smaller
loop-slot-smaller g c = omega (
  arith,
  goes_up c.args.plan.now.cycle (omega (arith, some_cycle c.args.plan.now)) c.args.from c.loop-slot.slot c.loop-slot.invariant.most
      (λ e. c.loop-slot-test.true (ap (λ (n : ℕ). c.loop-slot.slot % n) c.from.ensures ∙ e)),
)

pub returns-in_err-put_full-clause-filled : goal.returns-in_err-put_full-clause-filled
returns-in_err-put_full-clause-filled g c = λ part place held before begins handed.
    let plan : PlanFields = plan_fields c.args.plan.now in
    let at : ℕ = place + (c.loop-slot.slot - c.args.from) in
    let now = c.loop-slot.invariant.stand part place begins in
    let so_far = c.loop-slot.invariant.handed part place held before begins handed in
    let failed = err_from_is_err_and c.from_residual.result c.from_residual.ensures.1 in
    let up = goes_up c.args.plan.now.cycle (omega (arith, some_cycle c.args.plan.now)) c.args.from c.loop-slot.slot c.loop-slot.invariant.most
    (λ e. c.loop-slot-test.true (ap (λ (n : ℕ). c.loop-slot.slot % n) c.from.ensures ∙ e)) in
    let below = filled_below plan c.args.plan.now.whole part place c.args.from (c.loop-slot.slot + 1) c.args.services.now c.args.table.now begins (omega (arith, c.loop-slot.invariant.from)) up in
    rw failed.1 (record {
      passes = part_handed part (whole_cycles part.plan.cycle place) (at + 1) held (g.K.Sink.told c.loop-slot.sink).held (g.K.Sink.told c.put_full.new.sink).held before so_far.front c.add_record.new.batch
          (omega (arith, below, one_more place c.args.from c.loop-slot.slot c.loop-slot.invariant.from))
          (added_bytes plan part at c.loop-slot.slot c.add_record.new.services c.add_record.new.table held (g.K.Sink.told c.loop-slot.sink).held (g.K.Sink.told c.put_full.new.sink).held
          before c.loop-slot.batch c.add_record.new.batch (c.add_record.ensures.added part at now) so_far)
          so_far.appended c.in_err-put_full.ensures.handed;
      stand = tt;
    })

pub returns-clause-filled : goal.returns-clause-filled
returns-clause-filled g c = λ part place held before begins handed.
    let plan : PlanFields = plan_fields c.args.plan.now in
    let at : ℕ = place + (c.loop-slot.slot - c.args.from) in
    let end = filled_to plan c.args.plan.now.whole part place c.args.from c.loop-slot.slot c.args.services.now c.args.table.now begins c.loop-slot.invariant.from
    (is_there c.args.plan.now.cycle (omega (arith, some_cycle c.args.plan.now)) c.args.from c.loop-slot.slot c.loop-slot.invariant.from c.loop-slot.invariant.most
    (ap (λ (n : ℕ). c.loop-slot.slot % n) (sym c.from.ensures) ∙ c.loop-slot-test.false)) in
    let so_far = subst (λ (n : ℕ). AreHanded part n held (g.K.Sink.told c.loop-slot.sink).held before c.loop-slot.batch) end (c.loop-slot.invariant.handed part place held before begins handed) in
    record {
      passes = (so_far.front, so_far.appended, so_far.bytes_are);
      stand = subst (λ (n : ℕ). StandBefore plan part n c.loop-slot.slot c.loop-slot.services c.loop-slot.table) end (c.loop-slot.invariant.stand part place begins);
    }
