use Rattle.std.proofs.Common.{◌≡◌, ap}
use Rattle.ipencap_engine.specs.Jobs.{to_find}
use Rattle.ipencap_engine.specs.Statuses.{status_of_search}
use Rattle.ipencap_engine.specs.declared.status.Outcome.TheVariants.{Ended}
use Rattle.ipencap_engine.proofs.Settings.{runs_by}
use Rattle.ipencap_engine.proofs.Found.{find_done, find_fails}
use Rattle.ipencap_engine.proofs.find.find_services.Goals as goal

pub returns-in-Ok : goal.returns-in-Ok
returns-in-Ok g c = λ shelf rack.
    find_done c.args.pid c.requires shelf (g.I.Source.told c.args.input.now) (g.I.Source.told c.find.new.input) (g.O.Sink.told c.args.output.now) (g.O.Sink.told c.find.new.output) rack _ tt tt
    (c.find.new.input ≡ c.args.input.now) (c.find.new.output ≡ c.args.output.now) (λ same. same) c.in-Ok.field-0 c.in-Ok.ensures.finds

pub returns-in-Err : goal.returns-in-Err
returns-in-Err g c = λ shelf rack.
    runs_by (to_find c.args.pid) (Ended c.from.result) (Ended (status_of_search c.in-Err.fault)) _ _ _ (ap (λ s. Ended s) c.from.ensures)
    (find_fails c.args.pid c.requires shelf (g.I.Source.told c.args.input.now) (g.I.Source.told c.find.new.input) (g.O.Sink.told c.args.output.now) (g.O.Sink.told c.find.new.output) rack _ tt tt
    (c.find.new.input ≡ c.args.input.now) (c.find.new.output ≡ c.args.output.now) (λ same. same) c.in-Err.fault c.in-Err.ensures.finds)
