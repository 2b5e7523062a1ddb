use Rattle.std.proofs.Common.{◌≡◌, length, ap, subst}
use Rattle.plan_spec.specs.Plan.{PlanFields}
use Rattle.receive_command.specs.Receives.{ReceivesFiles}
use Rattle.receive_command.proofs.ule_command.ule.Goals as goal

pub write_capture-requires-clause-one : goal.write_capture-requires-clause-one
write_capture-requires-clause-one g c = ap (λ (plan : PlanFields). length plan.services) c.in_ok-plan.ensures.written

pub returns : goal.returns
returns g c = record {
  receives = subst (λ (plan : PlanFields). ReceivesFiles c.write_capture.result plan (g.I.Source.told c.args.input.now) (g.I.Source.told c.write_capture.new.input) (g.R.Rack.told c.args.rack.now) (g.R.Rack.told c.write_capture.new.rack)
      (c.write_capture.new.input ≡ c.args.input.now)) c.in_ok-plan.ensures.written c.write_capture.ensures.receives;
}
