use Rattle.std.proofs.Common.{◌+◌, refl, arith, subst}
use Rattle.ipe_io.proofs.Told.{is_there}
use Rattle.capture_files.specs.declared.outlet.Progress.{Progress}
use Rattle.capture_files.specs.Outlets.{RackSeen, StandsFor}
use Rattle.capture_files.proofs.Outlets.{stands_stopped}
use Rattle.capture_files.proofs.outlet.RackOutletOutlet.deliver.Goals as goal

pub returns-in-Err-clause-unchanged : goal.returns-in-Err-clause-unchanged
returns-in-Err-clause-unchanged g c = λ pairs stands.
    let began : RackSeen = record { first = g.B.Began.first; count = g.B.Began.count; faults = g.B.Began.faults; files = g.B.Began.files } in
    let mid : RackSeen = record { first = c.args.self.now.first; count = (g.R.Rack.told c.args.self.now.rack.now).count; faults = (g.R.Rack.told c.args.self.now.rack.now).faults; files = (g.R.Rack.told c.args.self.now.rack.now).files } in
    let now : RackSeen = record { first = c.args.self.now.first; count = (g.R.Rack.told c.put_datagram.new.rack).count; faults = (g.R.Rack.told c.put_datagram.new.rack).faults; files = (g.R.Rack.told c.put_datagram.new.rack).files } in
    stands_stopped began mid now c.args.self.now.rack.ghost_name pairs c.args.service c.in-Err.put c.args.datagram.now
    (subst (λ (p : Progress). StandsFor began mid p c.args.self.now.rack.ghost_name pairs) c.in-Whole.is stands) refl c.in-Err.ensures.count c.in-Err.ensures.cause.failed c.in-Err.ensures.cause.later
    (is_there mid.files (mid.first + c.args.service) mid.count (g.met.R.Rack.as_many c.args.self.now.rack.now) (omega (arith, c.requires, c.args.self.now.there)))
    c.in-Err.ensures.part.0 c.in-Err.ensures.part.1
