use Rattle.std.proofs.Common.{◌≡◌, refl, ap, Err}
use Rattle.plan.specs.PlanView.{plan_fields}
use Rattle.settings_load.specs.declared.fault.SettingsError.TheVariants.{ShelfFault}
use Rattle.ipencap_engine.specs.Jobs.{to_tables}
use Rattle.ipencap_engine.specs.Statuses.{status_of_tables}
use Rattle.ipencap_engine.specs.declared.status.Outcome.TheVariants.{Ended}
use Rattle.ipencap_engine.proofs.Plans.{told_name}
use Rattle.ipencap_engine.proofs.Settings.{runs_unsettled, runs_by, keeps_loaded}
use Rattle.ipencap_engine.proofs.Tabled.{tables_done, tables_fail}
use Rattle.ipencap_engine.proofs.tables.write_plan_tables.Goals as goal

pub returns-in-Err : goal.returns-in-Err
returns-in-Err g c = λ input rack.
    let e = c.in-Err.ensures in
    runs_by (to_tables c.args.name.now) c.outcome_of.result _ _ _ _ c.outcome_of.ensures
    (runs_unsettled (to_tables c.args.name.now) c.args.name.now c.in-Err.error (g.S.Shelf.told c.args.shelf.now) (g.S.Shelf.told c.load_plan.new.shelf) input (g.O.Sink.told c.args.output.now) rack _
    refl refl e.unchanged e.others e.later (λ f. e.cause (ap (λ x. Err x) f)) (λ n. e.kept (λ f. n (let same : c.in-Err.error ≡ ShelfFault = cc in same)))
    e.refused (λ plan given. e.only given.bytes plan (told_name _ c.args.name.now (g.S.Shelf.told c.load_plan.new.shelf) given.bytes refl given.told) given.gives) tt refl tt)

pub returns-in-Ok-write_tables : goal.returns-in-Ok-write_tables
returns-in-Ok-write_tables g c = λ input rack.
    tables_done c.args.name.now (plan_fields c.in-Ok.plan) (g.S.Shelf.told c.args.shelf.now) (g.S.Shelf.told c.load_plan.new.shelf) input (g.O.Sink.told c.args.output.now)
    (g.O.Sink.told c.write_tables.new.output) rack _
    (keeps_loaded (to_tables c.args.name.now) c.args.name.now (g.S.Shelf.told c.args.shelf.now) (g.S.Shelf.told c.load_plan.new.shelf) refl c.in-Ok.ensures.unchanged c.in-Ok.ensures.others c.in-Ok.ensures.later (c.in-Ok.ensures.kept (λ e. absurd (cc))))
    c.in-Ok.ensures.read c.in-Ok.ensures.fails tt tt
    (c.write_tables.new.output ≡ c.args.output.now) (λ same. ap g.O.Sink.told same) (λ same. same) c.in-Ok-write_tables.field-0 c.in-Ok-write_tables.ensures.writes

pub returns : goal.returns
returns g c = λ input rack.
    runs_by (to_tables c.args.name.now) (Ended c.from.result) (Ended (status_of_tables c.in-Err-write_tables.fault)) _ _ _ (ap (λ s. Ended s) c.from.ensures)
    (tables_fail c.args.name.now (plan_fields c.in-Ok.plan) (g.S.Shelf.told c.args.shelf.now) (g.S.Shelf.told c.load_plan.new.shelf) input (g.O.Sink.told c.args.output.now)
    (g.O.Sink.told c.write_tables.new.output) rack _
    (keeps_loaded (to_tables c.args.name.now) c.args.name.now (g.S.Shelf.told c.args.shelf.now) (g.S.Shelf.told c.load_plan.new.shelf) refl c.in-Ok.ensures.unchanged c.in-Ok.ensures.others c.in-Ok.ensures.later (c.in-Ok.ensures.kept (λ e. absurd (cc))))
    c.in-Ok.ensures.read c.in-Ok.ensures.fails tt tt
    (c.write_tables.new.output ≡ c.args.output.now) (λ same. ap g.O.Sink.told same) (λ same. same) c.in-Err-write_tables.fault c.in-Err-write_tables.ensures.writes)
