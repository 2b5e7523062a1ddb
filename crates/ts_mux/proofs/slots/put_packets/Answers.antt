use Rattle.std.proofs.Common.{◌≡◌, ◌+◌, ◌-◌, ◌<◌, ◌∙◌, ℕ, true, false, ltb, refl, sym, arith}
use Rattle.std.proofs.lemmas.Result.{err_from_is_err_and}
use Rattle.ipe_io.proofs.Told.{stays-refl, stays-trans}
use Rattle.plan_spec.specs.Plan.{PlanFields}
use Rattle.plan_spec.specs.Wholes.{is_whole_plan}
use Rattle.stream_spec.specs.Parts.{PartFields, slot_in}
use Rattle.stream_spec.specs.Slots.{IsSlotCount}
use Rattle.plan.specs.PlanView.{plan_fields}
use Rattle.ts_mux.specs.Services.{Serving, left_in}
use Rattle.ts_mux.specs.Slots.{StandBefore}
use Rattle.ts_mux.specs.declared.int_packets.IntPackets.{IntPackets}
use Rattle.ts_mux.proofs.Signalled.{part_accepted}
use Rattle.ts_mux.proofs.Ended.{under_way_first, under_way_next, under_way_last, slots_end, goes_on, ends_where, part_handed, added_bytes}
use Rattle.ts_mux.proofs.slots.put_packets.Goals as goal

-- packets are left, as it is told
some_left : (n : ℕ) → ltb 0 n ≡ true → 0 < n
some_left n e = grind (arith, e)

none_left : (n : ℕ) → ltb 0 n ≡ false → n ≡ 0
none_left n e = grind (arith, e)

-- the part goes on where they are
goes : (plan : PlanFields) (whole : is_whole_plan plan ≡ true) (part : PartFields) (place of_stream : ℕ) (serving : Serving) (signals : IntPackets) → StandBefore plan part place of_stream serving signals
    → ltb 0 (left_in serving) ≡ true → (slots : ℕ) → IsSlotCount (slot_in part) slots → place < slots
goes plan whole part place of_stream serving signals stand left slots count =
    goes_on part (part_accepted plan whole part stand.of_plan) stand.of_plan.fits place serving stand.services (some_left (left_in serving) left) slots count

pub loop-turn-init : goal.loop-turn-init
loop-turn-init g c = record {
  under_way = λ part stand.
      under_way_first (plan_fields c.args.plan.now) part (c.args.first - c.args.first) c.args.first (g.K.Sink.told c.args.sink.now).held c.args.batch.now c.args.services.now c.args.table.now (omega arith) stand;
  turn = record { read = c.turn-turn.ensures.read; left = c.turn-turn.ensures.left };
  from = omega arith;
  room = c.requires.room;
  behind = refl;
  flushed = stays-refl (g.K.Sink.told c.args.sink.now).flushed;
  same = refl;
}

pub add_record-requires-clause-stand : goal.add_record-requires-clause-stand
add_record-requires-clause-stand g c = (c.requires.stand.0, c.loop-turn.slot - c.args.first, (c.loop-turn.invariant.under_way c.requires.stand.0 c.requires.stand.1).stand)

pub add_record-requires-clause-turn : goal.add_record-requires-clause-turn
add_record-requires-clause-turn g c = sym c.loop-turn.invariant.turn.read

pub overflow_add-slot : goal.overflow_add-slot
overflow_add-slot g c =
    let plan : PlanFields = plan_fields c.args.plan.now in
    let part : PartFields = c.requires.stand.0 in
    let stand = (c.loop-turn.invariant.under_way part c.requires.stand.1).stand in
    let end : (slots : ℕ) × IsSlotCount (slot_in part) slots = slots_end part (part_accepted plan c.args.plan.now.whole part stand.of_plan) stand.of_plan.fits in
    omega (
      arith,
      c.requires.stand.2 end.0 end.1,
      c.loop-turn.invariant.from,
      goes plan c.args.plan.now.whole part (c.loop-turn.slot - c.args.first) c.loop-turn.slot c.loop-turn.services c.loop-turn.table stand (sym c.has_packets.ensures.read ∙ c.loop-turn-test.true) end.0 end.1,
    )

pub loop-turn-preserved : goal.loop-turn-preserved
loop-turn-preserved g c =
    let plan : PlanFields = plan_fields c.args.plan.now in
    let place : ℕ = c.loop-turn.slot - c.args.first in
    record {
      under_way = λ part begins.
          let way = c.loop-turn.invariant.under_way part begins in
          under_way_next plan part place (c.loop-turn.slot + 1 - c.args.first) c.loop-turn.slot (g.K.Sink.told c.args.sink.now).held (g.K.Sink.told c.loop-turn.sink).held (g.K.Sink.told c.put_full.new.sink).held
          c.args.batch.now c.loop-turn.batch c.add_record.new.batch c.put_full.new.self c.loop-turn.services c.add_record.new.services c.loop-turn.table c.add_record.new.table
          (omega (arith, c.loop-turn.invariant.from)) way (c.add_record.ensures.added part place way.stand) c.in_ok-put_full.ensures.handed
          (goes plan c.args.plan.now.whole part place c.loop-turn.slot c.loop-turn.services c.loop-turn.table way.stand (sym c.has_packets.ensures.read ∙ c.loop-turn-test.true));
      turn = record { read = c.turn-turn-in-loop-turn.ensures.read; left = c.turn-turn-in-loop-turn.ensures.left };
      from = omega (arith, c.loop-turn.invariant.from);
      room = c.in_ok-put_full.ensures.room;
      behind = c.add_record.ensures.kept.1 ∙ c.loop-turn.invariant.behind;
      flushed = stays-trans (g.K.Sink.told c.args.sink.now).flushed (g.K.Sink.told c.loop-turn.sink).flushed (g.K.Sink.told c.put_full.new.sink).flushed c.loop-turn.invariant.flushed c.in_ok-put_full.ensures.flushed;
      same = c.in_ok-put_full.ensures.cause.kept ∙ c.loop-turn.invariant.same;
    }

pub returns-clause-written : goal.returns-clause-written
returns-clause-written g c = λ part begins.
    let plan : PlanFields = plan_fields c.args.plan.now in
    let place : ℕ = c.loop-turn.slot - c.args.first in
    let way = c.loop-turn.invariant.under_way part begins in
    let accepted = part_accepted plan c.args.plan.now.whole part way.stand.of_plan in
    let end : (slots : ℕ) × IsSlotCount (slot_in part) slots = slots_end part accepted way.stand.of_plan.fits in
    record {
      least = place;
      count = under_way_last part place end.0 end.1 (way.within end.0 end.1)
          (ends_where part accepted way.stand.of_plan.fits place c.loop-turn.services way.stand.services (none_left (left_in c.loop-turn.services) (sym c.has_packets.ensures.read ∙ c.loop-turn-test.false)) end.0 end.1);
      passes = (way.handed.front, way.handed.appended, way.handed.bytes_are);
      stand = way.stand;
    }

pub returns-in_err-put_full-clause-written : goal.returns-in_err-put_full-clause-written
returns-in_err-put_full-clause-written g c = λ part begins.
    let plan : PlanFields = plan_fields c.args.plan.now in
    let place : ℕ = c.loop-turn.slot - c.args.first in
    let way = c.loop-turn.invariant.under_way part begins in
    let accepted = part_accepted plan c.args.plan.now.whole part way.stand.of_plan in
    let end : (slots : ℕ) × IsSlotCount (slot_in part) slots = slots_end part accepted way.stand.of_plan.fits in
    let failed = err_from_is_err_and c.from_residual.result c.from_residual.ensures.1 in
    rw failed.1 (record {
      least = end.0;
      count = end.1;
      passes = part_handed part end.0 (place + 1) (g.K.Sink.told c.args.sink.now).held (g.K.Sink.told c.loop-turn.sink).held (g.K.Sink.told c.put_full.new.sink).held c.args.batch.now way.handed.front c.add_record.new.batch
          (omega (arith, goes plan c.args.plan.now.whole part place c.loop-turn.slot c.loop-turn.services c.loop-turn.table way.stand (sym c.has_packets.ensures.read ∙ c.loop-turn-test.true) end.0 end.1))
          (added_bytes plan part place c.loop-turn.slot c.add_record.new.services c.add_record.new.table (g.K.Sink.told c.args.sink.now).held (g.K.Sink.told c.loop-turn.sink).held (g.K.Sink.told c.put_full.new.sink).held
          c.args.batch.now c.loop-turn.batch c.add_record.new.batch (c.add_record.ensures.added part place way.stand) way.handed)
          way.handed.appended c.in_err-put_full.ensures.handed;
      stand = tt;
    })
