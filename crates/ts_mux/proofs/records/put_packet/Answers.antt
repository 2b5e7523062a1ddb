use Rattle.std.proofs.Common.{drop, sym, subst}
use Rattle.std.proofs.lemmas.List.{take_at, drop_at}
use Rattle.plan.specs.PlanView.{plan_fields}
use Rattle.ts_mux.specs.Slots.{TakesSlot}
use Rattle.ts_mux.proofs.records.put_packet.Goals as goal

pub returns-clause-taken : goal.returns-clause-taken
returns-clause-taken c = λ part place stand.
    subst (TakesSlot (plan_fields c.args.plan.now) part place c.args.slot c.packet_for_slot.new.services c.packet_for_slot.new.table) (sym (take_at c.packet_for_slot.new.into (drop 188 c.args.into.now) 188 c.packet_for_slot.ensures.size))
    (c.packet_for_slot.ensures.taken part place stand)

pub returns-clause-after : goal.returns-clause-after
returns-clause-after c = drop_at c.packet_for_slot.new.into (drop 188 c.args.into.now) 188 c.packet_for_slot.ensures.size
