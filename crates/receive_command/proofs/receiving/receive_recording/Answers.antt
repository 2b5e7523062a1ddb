use Rattle.std.proofs.Common.{◌≡◌, refl}
use Rattle.plan.specs.PlanView.{plan_fields}
use Rattle.capture_files.specs.declared.faults.ReceiveFault.TheVariants as fault
use Rattle.capture_files.proofs.CameUp.{comes_up}
use Rattle.plan_law.proofs.Plans.{services_count}
use Rattle.receive_command.proofs.Received.{lacks_all}
use Rattle.receive_command.proofs.receiving.receive_recording.Goals as goal

pub returns-in_err-reception : goal.returns-in_err-reception
returns-in_err-reception g c = record {
  receives = rw (comes_up c.from_residual.result fault.OutOfMemory fault.OutOfMemory c.from_residual.ensures.1 refl)
      (lacks_all (plan_fields c.args.plan.now) (g.I.Source.told c.args.input.now) (g.R.Rack.told c.args.rack.now) (g.O.Sink.told c.args.output.now) (c.args.input.now ≡ c.args.input.now) (c.args.output.now ≡ c.args.output.now)
      (services_count (plan_fields c.args.plan.now) c.args.plan.now.valid).0 refl refl);
}
