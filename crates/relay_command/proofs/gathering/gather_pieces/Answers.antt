use Rattle.std.proofs.Common.{sym, subst, ◌∙◌}
use Rattle.ipe_io.specs.Told.{InputTold}
use Rattle.plan_spec.specs.Plan.{PlanFields}
use Rattle.plan.specs.PlanView.{plan_fields}
use Rattle.plan_law.proofs.Plans.{services_count}
use Rattle.datagram_routing.specs.declared.offered.Offered.{Offered}
use Rattle.datagram_routing.specs.Offering.{IsUnderPlan}
use Rattle.relay_command.specs.Relaying.{GathersInto, at_datagram}
use Rattle.relay_command.proofs.Receiving.{fails_to_read, has_most, gathers_all, too_many, lacks}
use Rattle.relay_command.proofs.AsRecords.{received_into, under_plan}
use Rattle.relay_command.proofs.gathering.gather_pieces.Goals as goal

pub receive-requires-clause-services : goal.receive-requires-clause-services
receive-requires-clause-services g c = (services_count (plan_fields c.args.inner.now) c.args.inner.now.valid).1

pub returns-in-Err-Source-clause-source : goal.returns-in-Err-Source-clause-source
returns-in-Err-Source-clause-source g c = λ is.
    fails_to_read (plan_fields c.args.inner.now) g.P.OuterPlan.outer (g.I.Source.told c.args.input.now) (g.I.Source.told c.receive.new.input) c.receive.new.self.receiver
    c.args.gather c.receive.new.outlet c.args.gather.faults c.receive.new.outlet.faults c.requires.gathered
    (rw c.in-Err-Source.field-0-is at c.in-Err-Source.ensures.receives)

pub returns-in-Err-TooLong-clause-too_long : goal.returns-in-Err-TooLong-clause-too_long
returns-in-Err-TooLong-clause-too_long g c = λ is.
    has_most (plan_fields c.args.inner.now) g.P.OuterPlan.outer (g.I.Source.told c.args.input.now) (g.I.Source.told c.receive.new.input) c.receive.new.self.receiver
    c.args.gather c.receive.new.outlet c.args.gather.faults c.receive.new.outlet.faults c.requires.gathered
    (rw c.in-Err-TooLong.field-0-is at c.in-Err-TooLong.ensures.receives)

pub returns-in-Full-clause-too_long : goal.returns-in-Full-clause-too_long
returns-in-Full-clause-too_long g c = λ is.
    too_many (plan_fields c.args.inner.now) g.P.OuterPlan.outer (g.I.Source.told c.args.input.now) (g.I.Source.told c.receive.new.input) c.receive.new.self.receiver
    c.args.gather c.receive.new.outlet c.args.gather.faults c.receive.new.outlet.faults c.requires.gathered
    (rw c.in-Err-Taker.field-0-is at c.in-Err-Taker.ensures.receives) (sym c.cause.ensures.read ∙ c.in-Full.is)

pub returns-in-Full-clause-memory : goal.returns-in-Full-clause-memory
returns-in-Full-clause-memory g c = λ is. absurd (cc)

pub returns-in-OutOfMemory-clause-memory : goal.returns-in-OutOfMemory-clause-memory
returns-in-OutOfMemory-clause-memory g c = λ is.
    at_datagram (lacks (plan_fields c.args.inner.now) g.P.OuterPlan.outer (g.I.Source.told c.args.input.now) (g.I.Source.told c.receive.new.input) c.receive.new.self.receiver
    c.args.gather c.receive.new.outlet c.args.gather.faults c.receive.new.outlet.faults c.requires.gathered
    (rw c.in-Err-Taker.field-0-is at c.in-Err-Taker.ensures.receives) (sym c.cause.ensures.read ∙ c.in-OutOfMemory.is))

pub returns-in-Ok-clause-gathers : goal.returns-in-Ok-clause-gathers
returns-in-Ok-clause-gathers g c =
    let inner : PlanFields = plan_fields c.args.inner.now in
    let outer : PlanFields = g.P.OuterPlan.outer in
    let input : InputTold = g.I.Source.told c.args.input.now in
    let now : InputTold = g.I.Source.told c.receive.new.input in
    let all = gathers_all inner outer input now c.receive.new.self.receiver c.args.gather c.receive.new.outlet
    c.args.gather.faults c.receive.new.outlet.faults c.requires.gathered c.in-Ok.field-0 c.in-Ok.ensures.receives in
    subst (λ (offered : Offered). GathersInto inner outer input now offered × IsUnderPlan outer offered) (sym c.into_offered.ensures.read) (
      received_into inner outer input now c.receive.new.outlet all c.delivered_datagrams_are_datagrams.ensures.are c.datagrams_are_offered_as_they_are.ensures.are,
      under_plan inner outer input now c.receive.new.outlet all c.delivered_datagrams_are_datagrams.ensures.are c.datagrams_are_offered_as_they_are.ensures.are,
    )
