use Rattle.std.proofs.Common.{Ok, Err}
use Rattle.plan_spec.specs.Plan.{PlanFields}
use Rattle.plan.specs.PlanView.{plan_fields}
use Rattle.recording_reader.specs.Any.{form_in, size_in}
use Rattle.recording_reception.proofs.Begun.{is_ready}
use Rattle.recording_reception.proofs.Received.{received_front, received_whole, received_behind, ended_on, delivers_nothing}
use Rattle.recording_reception.proofs.reception.Reception.receive.Goals as goal

pub read_to_end-requires-clause-ready : goal.read_to_end-requires-clause-ready
read_to_end-requires-clause-ready g c = is_ready (plan_fields c.args.plan.now) c.args.self.now.receiver c.args.self.now.pieces _ c.requires.begun c.requires.services

pub returns-in-Err : goal.returns-in-Err
returns-in-Err g c = record {
  receives =
      received_front (plan_fields c.args.plan.now) (form_in c.args.self.now.pieces) (size_in c.args.self.now.pieces) c.args.self.now.receiver (g.I.Source.told c.args.input.now)
      (g.I.Source.told c.read_to_end.new.input) (g.T.Outlet.StandsFor c.args.outlet.now) (g.T.Outlet.StandsFor c.read_to_end.new.into) (g.T.Outlet.Refused c.read_to_end.new.into)
      (g.T.Outlet.faults c.args.outlet.now) (g.T.Outlet.faults c.read_to_end.new.into) c.requires.begun.given c.requires.begun.form c.read_to_end.new.taker c.in-Err.fault c.in-Err.ensures.reads;
}

pub returns-in-Ok-finish : goal.returns-in-Ok-finish
returns-in-Ok-finish g c = record {
  receives =
      let plan : PlanFields = plan_fields c.args.plan.now in
      received_whole plan (form_in c.args.self.now.pieces) (size_in c.args.self.now.pieces) c.args.self.now.receiver (g.I.Source.told c.args.input.now) (g.I.Source.told c.read_to_end.new.input)
      (g.T.Outlet.StandsFor c.args.outlet.now) (g.T.Outlet.StandsFor c.finish.new.outlet) (g.T.Outlet.Refused c.finish.new.outlet) (g.T.Outlet.faults c.args.outlet.now)
      (g.T.Outlet.faults c.finish.new.outlet) c.requires.begun.given c.requires.begun.form c.read_to_end.new.taker c.finish.new.self (g.T.Outlet.StandsFor c.read_to_end.new.into)
      (g.T.Outlet.faults c.read_to_end.new.into) c.in-Ok.tail _ c.in-Ok.ensures.reads c.in-Ok-finish.field-0 c.in-Ok-finish.ensures.cause.kept
      (ended_on (g.T.Outlet.StandsFor c.read_to_end.new.into) (g.T.Outlet.StandsFor c.finish.new.outlet) (g.T.Outlet.Refused c.finish.new.outlet) (Ok c.in-Ok-finish.field-0)
      c.read_to_end.new.taker c.finish.new.self
      (λ p records has. c.in-Ok-finish.ensures.packets p records has) (λ p records has. c.in-Ok-finish.ensures.written p records has) (λ p records has. c.in-Ok-finish.ensures.failed p records has)
      (λ p given has. c.in-Ok-finish.ensures.frames p given has) (λ b. c.in-Ok-finish.ensures.done b)
      (λ b. delivers_nothing (λ o. g.T.Outlet.StandsFor o) c.read_to_end.new.into c.finish.new.outlet (c.in-Ok-finish.ensures.unchanged b))
      plan.frame_bytes plan (form_in c.args.self.now.pieces) (size_in c.args.self.now.pieces) c.in-Ok.ensures.reads.pieces c.requires.begun.form);
}

pub returns-in-Err-finish : goal.returns-in-Err-finish
returns-in-Err-finish g c = record {
  receives =
      let plan : PlanFields = plan_fields c.args.plan.now in
      received_behind plan (form_in c.args.self.now.pieces) (size_in c.args.self.now.pieces) c.args.self.now.receiver (g.I.Source.told c.args.input.now) (g.I.Source.told c.read_to_end.new.input)
      (g.T.Outlet.StandsFor c.args.outlet.now) (g.T.Outlet.StandsFor c.finish.new.outlet) (g.T.Outlet.Refused c.finish.new.outlet) (g.T.Outlet.faults c.args.outlet.now)
      (g.T.Outlet.faults c.finish.new.outlet) c.requires.begun.given c.requires.begun.form c.read_to_end.new.taker c.finish.new.self (g.T.Outlet.StandsFor c.read_to_end.new.into)
      (g.T.Outlet.faults c.read_to_end.new.into) c.in-Ok.tail _ c.in-Ok.ensures.reads c.in-Err-finish.field-0
      (ended_on (g.T.Outlet.StandsFor c.read_to_end.new.into) (g.T.Outlet.StandsFor c.finish.new.outlet) (g.T.Outlet.Refused c.finish.new.outlet) (Err c.in-Err-finish.field-0)
      c.read_to_end.new.taker c.finish.new.self
      (λ p records has. c.in-Err-finish.ensures.packets p records has) (λ p records has. c.in-Err-finish.ensures.written p records has) (λ p records has. c.in-Err-finish.ensures.failed p records has)
      (λ p given has. c.in-Err-finish.ensures.frames p given has) (λ b. c.in-Err-finish.ensures.done b)
      (λ b. delivers_nothing (λ o. g.T.Outlet.StandsFor o) c.read_to_end.new.into c.finish.new.outlet (c.in-Err-finish.ensures.unchanged b))
      plan.frame_bytes plan (form_in c.args.self.now.pieces) (size_in c.args.self.now.pieces) c.in-Ok.ensures.reads.pieces c.requires.begun.form);
}
