use Rattle.std.proofs.Common.{◌≡◌, ap}
use Rattle.ipencap_engine.specs.Jobs.{to_unbridge}
use Rattle.ipencap_engine.specs.Statuses.{status_of_fault}
use Rattle.ipencap_engine.specs.declared.status.Outcome.TheVariants.{Ended}
use Rattle.ipencap_engine.proofs.Settings.{runs_by}
use Rattle.ipencap_engine.proofs.Unbridged.{unbridge_done, unbridge_fails}
use Rattle.ipencap_engine.proofs.unbridge.receive_frames.Goals as goal

pub returns-in-Ok : goal.returns-in-Ok
returns-in-Ok g c = λ shelf output.
    unbridge_done c.args.carrier shelf (g.I.Source.told c.args.input.now) (g.I.Source.told c.unbridge_on.new.input) output (g.R.Rack.told c.args.rack.now) (g.R.Rack.told c.unbridge_on.new.rack) _ tt tt
    (c.unbridge_on.new.input ≡ c.args.input.now) (λ same. same) (λ same. ap g.I.Source.told same)
    c.in-Ok.field-0 c.in-Ok.ensures.unbridges

pub returns-in-Err : goal.returns-in-Err
returns-in-Err g c = λ shelf output.
    runs_by (to_unbridge c.args.carrier) (Ended c.from.result) (Ended (status_of_fault c.in-Err.fault)) _ _ _ (ap (λ s. Ended s) c.from.ensures)
    (unbridge_fails c.args.carrier shelf (g.I.Source.told c.args.input.now) (g.I.Source.told c.unbridge_on.new.input) output (g.R.Rack.told c.args.rack.now) (g.R.Rack.told c.unbridge_on.new.rack) _ tt tt
    (c.unbridge_on.new.input ≡ c.args.input.now) (λ same. same) (λ same. ap g.I.Source.told same)
    c.in-Err.fault c.in-Err.ensures.unbridges)
