use Rattle.std.proofs.Common.{◌≡◌, arith, refl}
use Rattle.std.proofs.lemmas.List.{length-map}
use Rattle.capture_files.proofs.CameUp.{comes_up}
use Rattle.plan.specs.Parts.{service_seen}
use Rattle.plan.specs.PlanView.{plan_fields}
use Rattle.plan_law.proofs.Plans.{services_count, services_named}
use Rattle.receive_command.proofs.Received.{captures_fail, reported}
use Rattle.receive_command.proofs.receiving.write_and_report.Goals as goal

pub put_report-requires-clause-few : goal.put_report-requires-clause-few
put_report-requires-clause-few g c = omega (arith, (services_count (plan_fields c.args.plan.now) c.args.plan.now.valid).1, length-map c.args.plan.now.services service_seen)

pub put_report-requires-clause-named : goal.put_report-requires-clause-named
put_report-requires-clause-named g c = services_named (plan_fields c.args.plan.now) c.args.plan.now.valid

pub returns-in_err-tail : goal.returns-in_err-tail
returns-in_err-tail g c =
    let failed = comes_up c.from_residual.result c.in_err-tail.field-0.0 c.in_err-tail.field-0.0 c.from_residual.ensures.1 refl in
    record {
      receives = rw failed (captures_fail (plan_fields c.args.plan.now) (g.I.Source.told c.args.input.now) (g.I.Source.told c.write_captures.new.input) (g.R.Rack.told c.args.rack.now) (g.R.Rack.told c.write_captures.new.rack)
          c.write_captures.new.reception.receiver (g.O.Sink.told c.args.output.now) (c.write_captures.new.input ≡ c.args.input.now) (c.args.output.now ≡ c.args.output.now) refl c.in_err-tail.field-0.0 c.in_err-tail.ensures.captures);
    }

pub returns : goal.returns
returns g c = record {
  receives = reported (plan_fields c.args.plan.now) (g.I.Source.told c.args.input.now) (g.I.Source.told c.write_captures.new.input) (g.R.Rack.told c.args.rack.now) (g.R.Rack.told c.write_captures.new.rack)
      c.write_captures.new.reception.receiver (g.O.Sink.told c.args.output.now) (g.O.Sink.told c.put_report.new.output) (c.write_captures.new.input ≡ c.args.input.now) (c.put_report.new.output ≡ c.args.output.now)
      c.in_ok-tail.tail c.in_ok-tail.ensures.captures c.put_report.result (λ pieces given. c.put_report.ensures.puts pieces given);
}
