use Rattle.std.proofs.Common.{rules, inr, take, ◌∙◌}
use Rattle.capture_files.proofs.Adding.{adds_grown}
use Rattle.capture_files.proofs.files.add_file.Goals as goal

pub returns-in-Ok-clause-written : goal.returns-in-Ok-clause-written
returns-in-Ok-clause-written g c = (
  search rules,
  adds_grown (g.R.Rack.told c.args.rack.now).files (g.R.Rack.told c.add.new.self).files (g.R.Rack.told c.put_file.new.rack).files c.in_ok-at.at (g.R.Rack.told c.args.rack.now).count
      c.args.name.now c.as_str.result.now c.args.head.now (c.as_str.ensures.value ∙ c.in_ok-text.ensures.written)
      (g.met.R.Rack.as_many c.args.rack.now) c.in_ok-at.ensures.place c.in_ok-at.ensures.written c.in-Ok.ensures.written,
)

pub returns-clause-failed : goal.returns-clause-failed
returns-clause-failed g c = λ e. inr (
  c.in-Err.ensures.written.0,
  c.in-Err.ensures.written.1,
  adds_grown (g.R.Rack.told c.args.rack.now).files (g.R.Rack.told c.add.new.self).files (g.R.Rack.told c.put_file.new.rack).files c.in_ok-at.at (g.R.Rack.told c.args.rack.now).count
      c.args.name.now c.as_str.result.now (take c.in-Err.ensures.written.0 c.args.head.now) (c.as_str.ensures.value ∙ c.in_ok-text.ensures.written)
      (g.met.R.Rack.as_many c.args.rack.now) c.in_ok-at.ensures.place c.in_ok-at.ensures.written c.in-Err.ensures.written.2,
)
