use Rattle.std.proofs.Common.{◌≡◌, refl}
use Rattle.capture_files.proofs.CameUp.{comes_up}
use Rattle.plan.specs.PlanView.{plan_fields}
use Rattle.receive_command.proofs.Received.{files_done, files_fail}
use Rattle.receive_command.proofs.ule_command.write_capture.Goals as goal

pub returns : goal.returns
returns g c = record {
  receives = files_done (plan_fields c.args.plan.now) (g.I.Source.told c.args.input.now) (g.I.Source.told c.write_captures.new.input) (g.R.Rack.told c.args.rack.now) (g.R.Rack.told c.write_captures.new.rack)
      c.write_captures.new.reception.receiver (c.write_captures.new.input ≡ c.args.input.now) c.in_ok-write_captures.field-0 tt c.in_ok-write_captures.ensures.captures;
}

pub returns-in_err-write_captures : goal.returns-in_err-write_captures
returns-in_err-write_captures g c =
    let failed = comes_up c.from_residual.result c.in_err-write_captures.field-0.0 c.in_err-write_captures.field-0.0 c.from_residual.ensures.1 refl in
    record {
      receives = rw failed (files_fail (plan_fields c.args.plan.now) (g.I.Source.told c.args.input.now) (g.I.Source.told c.write_captures.new.input) (g.R.Rack.told c.args.rack.now) (g.R.Rack.told c.write_captures.new.rack)
          c.write_captures.new.reception.receiver (c.write_captures.new.input ≡ c.args.input.now) c.requires.one c.in_err-write_captures.field-0.0 c.in_err-write_captures.ensures.captures);
    }
