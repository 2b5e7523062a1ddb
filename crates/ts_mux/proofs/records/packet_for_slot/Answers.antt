use Rattle.std.proofs.Common.{◌≡◌, ◌∙◌, ℕ, ◌+◌, ◌%◌, true, false, sym, ap, subst, Option}
use Rattle.plan.specs.PlanView.{plan_fields}
use Rattle.plan.specs.declared.plan.Plan.{Plan}
use Rattle.stream_spec.specs.Parts.{PartFields}
use Rattle.slice_spec.specs.Windows.{owner_of}
use Rattle.ts_mux.specs.Services.{Serving, with_opened, burst_of, TakesTurn, GivesBurst}
use Rattle.ts_mux.specs.Slots.{StandBefore, ServicesAt}
use Rattle.ts_mux.specs.declared.int_packets.IntPackets.{IntPackets}
use Rattle.ts_mux.proofs.Signalled.{part_accepted, place_is, cycle_some}
use Rattle.ts_mux.proofs.Stepped.{early_taken, late_taken, idle_taken, burst_taken, slot_taken, early_so, table_passes, windows_apart, known_owner, closed_owner}
use Rattle.ts_mux.proofs.records.packet_for_slot.Goals as goal

pub next-requires-clause-at : goal.next-requires-clause-at
next-requires-clause-at c = (c.requires.stand.0, c.requires.stand.1, c.requires.stand.2.of_plan, c.requires.stand.2.place, c.requires.stand.2.table)

pub returns-then-is_of_table-clause-taken : goal.returns-then-is_of_table-clause-taken
returns-then-is_of_table-clause-taken c = λ part place stand.
    let went = c.next.ensures.at part place stand.of_plan stand.place stand.table in
    let steps = early_taken part (part_accepted (plan_fields c.args.plan.now) c.args.plan.now.whole part stand.of_plan) stand.of_plan.fits place c.args.services.now c.next.new.into
    (early_so (plan_fields c.args.plan.now) c.args.plan.now.whole part place c.args.slot c.args.services.now c.args.table.now stand true (sym c.is_of_table.ensures.read ∙ c.if-is_of_table.true))
    stand.services went.1 in
    slot_taken (plan_fields c.args.plan.now) part place c.args.slot c.args.services.now c.args.services.now c.args.table.now c.next.new.self c.next.new.into stand went.0 steps.bytes_are steps.after

-- the place in the cycle
offset : (plan : Plan) (part : PartFields) (place slot : ℕ) (serving : Serving) (table : IntPackets) → StandBefore (plan_fields plan) part place slot serving table → slot % plan.cycle ≡ place % part.plan.cycle
offset plan part place slot serving table stand = place_is (plan_fields plan) plan.whole part stand.of_plan place slot stand.place

pub burst-requires-clause-cycle : goal.burst-requires-clause-cycle
burst-requires-clause-cycle c = cycle_some (plan_fields c.args.plan.now) c.args.plan.now.valid

pub burst-requires-clause-apart : goal.burst-requires-clause-apart
burst-requires-clause-apart c =
    let stand = c.requires.stand.2 in
    windows_apart c.requires.stand.0 (part_accepted (plan_fields c.args.plan.now) c.args.plan.now.whole c.requires.stand.0 stand.of_plan) stand.of_plan.fits c.requires.stand.1 c.args.services.now stand.services

pub burst-requires-clause-known : goal.burst-requires-clause-known
burst-requires-clause-known c = λ k n e.
    let stand = c.requires.stand.2 in
    known_owner c.requires.stand.0 (part_accepted (plan_fields c.args.plan.now) c.args.plan.now.whole c.requires.stand.0 stand.of_plan) stand.of_plan.fits c.requires.stand.1 c.args.services.now stand.services
    k n (ap (owner_of c.args.services.now.windows) (sym (offset c.args.plan.now c.requires.stand.0 c.requires.stand.1 c.args.slot c.args.services.now c.args.table.now stand)) ∙ e)

pub burst-requires-clause-closed : goal.burst-requires-clause-closed
burst-requires-clause-closed c = λ k e.
    let stand = c.requires.stand.2 in
    closed_owner c.requires.stand.0 (part_accepted (plan_fields c.args.plan.now) c.args.plan.now.whole c.requires.stand.0 stand.of_plan) stand.of_plan.fits c.requires.stand.1 c.args.services.now stand.services
    k (ap (owner_of c.args.services.now.windows) (sym (offset c.args.plan.now c.requires.stand.0 c.requires.stand.1 c.args.slot c.args.services.now c.args.table.now stand)) ∙ e)

-- the services where the window has opened, and what burst has a packet
opened : (plan : Plan) (part : PartFields) (place slot : ℕ) (old new : Serving) (table : IntPackets) → StandBefore (plan_fields plan) part place slot old table → new ≡ with_opened (slot % plan.cycle) old
    → new ≡ with_opened (place % part.plan.cycle) old
opened plan part place slot old new table stand is = is ∙ ap (λ (o : ℕ). with_opened o old) (offset plan part place slot old table stand)

asked_there : (plan : Plan) (part : PartFields) (place slot : ℕ) (old new : Serving) (table : IntPackets) (stand : StandBefore (plan_fields plan) part place slot old table) → new ≡ with_opened (slot % plan.cycle) old
    → (found : Option ℕ) → found ≡ burst_of (slot % plan.cycle) new → burst_of (place % part.plan.cycle) (with_opened (place % part.plan.cycle) old) ≡ found
asked_there plan part place slot old new table stand is found found_is =
    sym (found_is ∙ ap (λ (o : ℕ). burst_of o new) (offset plan part place slot old table stand) ∙ ap (burst_of (place % part.plan.cycle)) (opened plan part place slot old new table stand is))

pub returns-in-Some-clause-taken : goal.returns-in-Some-clause-taken
returns-in-Some-clause-taken c = λ part place stand.
    let late = sym c.is_of_table.ensures.read ∙ c.if-is_of_table.false in
    let here = early_so (plan_fields c.args.plan.now) c.args.plan.now.whole part place c.args.slot c.args.services.now c.args.table.now stand false late in
    let steps = burst_taken part (part_accepted (plan_fields c.args.plan.now) c.args.plan.now.whole part stand.of_plan) stand.of_plan.fits place c.args.services.now stand.services here c.in-Some.k
    (asked_there c.args.plan.now part place c.args.slot c.args.services.now c.burst.new.self c.args.table.now stand c.burst.ensures.opened c.burst.result c.burst.ensures.read ∙ c.in-Some.is)
    c.give.new.self c.give.new.into
    (subst (λ (s : Serving). GivesBurst s c.give.new.self c.in-Some.k c.give.new.into)
    (opened c.args.plan.now part place c.args.slot c.args.services.now c.burst.new.self c.args.table.now stand c.burst.ensures.opened) c.give.ensures.given) in
    slot_taken (plan_fields c.args.plan.now) part place c.args.slot c.args.services.now c.give.new.self c.args.table.now c.args.table.now c.give.new.into stand
    (table_passes (plan_fields c.args.plan.now) c.args.plan.now.whole part place c.args.slot c.args.services.now c.args.table.now stand late) steps.bytes_are steps.after

pub returns-in-Some-turn-clause-taken : goal.returns-in-Some-turn-clause-taken
returns-in-Some-turn-clause-taken c = λ part place stand.
    let late = sym c.is_of_table.ensures.read ∙ c.if-is_of_table.false in
    let here = early_so (plan_fields c.args.plan.now) c.args.plan.now.whole part place c.args.slot c.args.services.now c.args.table.now stand false late in
    let steps = late_taken part (part_accepted (plan_fields c.args.plan.now) c.args.plan.now.whole part stand.of_plan) stand.of_plan.fits place c.args.services.now stand.services here
    (asked_there c.args.plan.now part place c.args.slot c.args.services.now c.burst.new.self c.args.table.now stand c.burst.ensures.opened c.burst.result c.burst.ensures.read ∙ c.in_default.is)
    c.next-in-Some-turn.new.self c.next-in-Some-turn.new.into
    (subst (λ (s : Serving). TakesTurn s c.next-in-Some-turn.new.self c.next-in-Some-turn.new.into)
    (opened c.args.plan.now part place c.args.slot c.args.services.now c.burst.new.self c.args.table.now stand c.burst.ensures.opened) c.next-in-Some-turn.ensures.next) in
    slot_taken (plan_fields c.args.plan.now) part place c.args.slot c.args.services.now c.next-in-Some-turn.new.self c.args.table.now c.args.table.now c.next-in-Some-turn.new.into stand
    (table_passes (plan_fields c.args.plan.now) c.args.plan.now.whole part place c.args.slot c.args.services.now c.args.table.now stand late) steps.bytes_are steps.after

pub returns-in-None-clause-taken : goal.returns-in-None-clause-taken
returns-in-None-clause-taken c = λ part place stand.
    let late = sym c.is_of_table.ensures.read ∙ c.if-is_of_table.false in
    let here = early_so (plan_fields c.args.plan.now) c.args.plan.now.whole part place c.args.slot c.args.services.now c.args.table.now stand false late in
    let steps = idle_taken part (part_accepted (plan_fields c.args.plan.now) c.args.plan.now.whole part stand.of_plan) stand.of_plan.fits place c.args.services.now stand.services here
    (asked_there c.args.plan.now part place c.args.slot c.args.services.now c.burst.new.self c.args.table.now stand c.burst.ensures.opened c.burst.result c.burst.ensures.read ∙ c.in_default.is)
    c.write_null.new.into (c.requires.turn ∙ c.in-None.is) c.write_null.ensures.written in
    slot_taken (plan_fields c.args.plan.now) part place c.args.slot c.args.services.now c.burst.new.self c.args.table.now c.args.table.now c.write_null.new.into stand
    (table_passes (plan_fields c.args.plan.now) c.args.plan.now.whole part place c.args.slot c.args.services.now c.args.table.now stand late) steps.bytes_are
    (subst (λ (s : Serving). ServicesAt part (place + 1) s) (sym (opened c.args.plan.now part place c.args.slot c.args.services.now c.burst.new.self c.args.table.now stand c.burst.ensures.opened)) steps.after)
