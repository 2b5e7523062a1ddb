use Rattle.std.proofs.Common.{ap}
use Rattle.capture_files.specs.Outlets.{RackSeen}
use Rattle.unbridge_command.proofs.Written.{reads_as, wrote_all, wrote_part}
use Rattle.unbridge_command.proofs.writing.write_frames.Goals as goal

pub returns : goal.returns
returns g c = record {
  writes = λ carrier fresh.
      let began : RackSeen = record { first = g.B.Began.first; count = g.B.Began.count; faults = g.B.Began.faults; files = g.B.Began.files } in
      reads_as (g.P.Pieces.form c.args.pieces.now) (g.P.Pieces.size c.args.pieces.now) (g.I.Source.told c.args.input.now) (g.I.Source.told c.read_to_end.new.input) _ _ _ _
      (λ records took. wrote_all carrier c.args.at (g.R.Rack.told c.args.rack.now) (g.R.Rack.told c.read_to_end.new.into.rack.now) (g.R.Rack.told c.rack-1.given.0) began
      c.read_to_end.new.into.first c.read_to_end.new.into.progress _ c.read_to_end.new.into.rack.ghost_name c.args.bridge.now c.read_to_end.new.taker
      c.requires.began_place c.requires.began_rack (λ name. ap (λ r. g.R.Rack.told r) (c.rack-1.given.1 name)) fresh records took)
      (λ records stopped. wrote_part carrier c.args.at (g.R.Rack.told c.args.rack.now) (g.R.Rack.told c.read_to_end.new.into.rack.now) (g.R.Rack.told c.rack-1.given.0) began
      c.read_to_end.new.into.first c.read_to_end.new.into.progress _ c.read_to_end.new.into.rack.ghost_name c.args.bridge.now c.read_to_end.new.taker
      c.requires.began_place c.requires.began_rack (λ name. ap (λ r. g.R.Rack.told r) (c.rack-1.given.1 name)) fresh records stopped)
      c.read_to_end.result c.read_to_end.ensures.reads;
}
