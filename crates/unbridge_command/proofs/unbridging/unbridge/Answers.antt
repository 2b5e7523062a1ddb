use Rattle.std.proofs.Common.{◌≡◌, rules, refl, arith}
use Rattle.capture_files.specs.Faults.{fault_of_adding}
use Rattle.capture_files.proofs.CameUp.{comes_up}
use Rattle.unbridge_command.proofs.Ended.{sized, as_plain, head_stopped, ended_early, ended_whole, ended_in_flush}
use Rattle.unbridge_command.proofs.unbridging.unbridge.Goals as goal

pub returns-in_err-at : goal.returns-in_err-at
returns-in_err-at g c =
    let failed = comes_up c.from_residual.result (fault_of_adding c.in_err-at.field-0.0) (fault_of_adding c.in_err-at.field-0.0) c.from_residual.ensures.1 refl in
    record {
      unbridges = λ carrier fresh size. rw failed (head_stopped c.in_err-at.field-0.0 carrier (g.I.Source.told c.args.input.now) (g.R.Rack.told c.args.rack.now) (g.R.Rack.told c.add_bridge_file.new.rack)
          (c.args.input.now ≡ c.args.input.now) (search rules) refl c.in_err-at.ensures.failed c.in_err-at.ensures.memory c.in_err-at.ensures.cause c.in_err-at.ensures.most);
    }

pub returns-in-Err : goal.returns-in-Err
returns-in-Err g c = record {
  unbridges = λ carrier fresh size.
      rw c.from.ensures (ended_early carrier c.in_ok-at.at (g.I.Source.told c.args.input.now) (g.I.Source.told c.write_frames.new.input) (g.R.Rack.told c.args.rack.now) (g.R.Rack.told c.add_bridge_file.new.rack)
      (g.R.Rack.told c.write_frames.new.rack) (c.write_frames.new.input ≡ c.args.input.now)
      (sized (g.R.Rack.told c.args.rack.now).files (g.R.Rack.told c.args.rack.now).count c.in_ok-at.at c.in_ok-at.ensures.place.0 (g.met.R.Rack.as_many c.args.rack.now))
      c.in_ok-at.ensures.written.1 (c.in_ok-at.ensures.cause.kept (λ f. absurd (cc))) c.in_ok-at.ensures.written.0
      c.in-Err.fault (as_plain _ _ _ _ _ _ _ _ c.requires.form size (c.in-Err.ensures.writes carrier fresh)));
}

pub flush-requires : goal.flush-requires
flush-requires g c =
    omega (arith, (c.in-Ok.ensures.writes c.requires.given.0 c.requires.given.1).ends.5.count, c.in_ok-at.ensures.written.0, c.in_ok-at.ensures.place.0)

pub returns-in-Ok-flush : goal.returns-in-Ok-flush
returns-in-Ok-flush g c = record {
  unbridges = λ carrier fresh size.
      ended_whole carrier c.in_ok-at.at (g.I.Source.told c.args.input.now) (g.I.Source.told c.write_frames.new.input) (g.R.Rack.told c.args.rack.now) (g.R.Rack.told c.add_bridge_file.new.rack)
      (g.R.Rack.told c.write_frames.new.rack) (c.write_frames.new.input ≡ c.args.input.now)
      (sized (g.R.Rack.told c.args.rack.now).files (g.R.Rack.told c.args.rack.now).count c.in_ok-at.at c.in_ok-at.ensures.place.0 (g.met.R.Rack.as_many c.args.rack.now))
      c.in_ok-at.ensures.written.1 (c.in_ok-at.ensures.cause.kept (λ f. absurd (cc))) c.in_ok-at.ensures.written.0
      (g.R.Rack.told c.flush.new.self) c.in-Ok.field-0 (as_plain _ _ _ _ _ _ _ _ c.requires.form size (c.in-Ok.ensures.writes carrier fresh))
      tt c.in-Ok-flush.ensures.count c.in-Ok-flush.ensures.flushed c.in-Ok-flush.ensures.cause.kept;
}

pub returns-in-Err-flush : goal.returns-in-Err-flush
returns-in-Err-flush g c = record {
  unbridges = λ carrier fresh size.
      ended_in_flush carrier c.in_ok-at.at (g.I.Source.told c.args.input.now) (g.I.Source.told c.write_frames.new.input) (g.R.Rack.told c.args.rack.now) (g.R.Rack.told c.add_bridge_file.new.rack)
      (g.R.Rack.told c.write_frames.new.rack) (c.write_frames.new.input ≡ c.args.input.now)
      (sized (g.R.Rack.told c.args.rack.now).files (g.R.Rack.told c.args.rack.now).count c.in_ok-at.at c.in_ok-at.ensures.place.0 (g.met.R.Rack.as_many c.args.rack.now))
      c.in_ok-at.ensures.written.1 (c.in_ok-at.ensures.cause.kept (λ f. absurd (cc))) c.in_ok-at.ensures.written.0
      (g.R.Rack.told c.flush.new.self) c.in-Ok.field-0 (as_plain _ _ _ _ _ _ _ _ c.requires.form size (c.in-Ok.ensures.writes carrier fresh))
      c.in-Err-flush.ensures.count c.in-Err-flush.ensures.unchanged c.in-Err-flush.ensures.cause.failed;
}
