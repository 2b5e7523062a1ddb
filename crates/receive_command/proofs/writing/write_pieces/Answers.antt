use Rattle.std.proofs.Common.{ap}
use Rattle.plan.specs.PlanView.{plan_fields}
use Rattle.capture_files.specs.Outlets.{RackSeen}
use Rattle.receive_command.proofs.Written.{wrote}
use Rattle.receive_command.proofs.writing.write_pieces.Goals as goal

pub returns : goal.returns
returns g c = record {
  writes =
      let began : RackSeen = record { first = g.B.Began.first; count = g.B.Began.count; faults = g.B.Began.faults; files = g.B.Began.files } in
      wrote (plan_fields c.args.plan.now) c.args.first (g.I.Source.told c.args.input.now) (g.I.Source.told c.receive.new.input) c.receive.new.self.receiver
      (g.R.Rack.told c.args.rack.now) (g.R.Rack.told c.receive.new.outlet.rack.now) (g.R.Rack.told c.rack-1.given.0) began c.receive.new.outlet.first
      c.receive.new.outlet.progress _ c.receive.new.outlet.rack.ghost_name c.requires.began_place c.requires.began_rack
      (λ name. ap (λ r. g.R.Rack.told r) (c.rack-1.given.1 name)) c.receive.result c.receive.ensures.receives;
}
