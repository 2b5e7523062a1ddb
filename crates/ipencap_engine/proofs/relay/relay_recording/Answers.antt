use Rattle.std.proofs.Common.{◌≡◌, refl, ap, Err}
use Rattle.plan.specs.PlanView.{plan_fields}
use Rattle.settings_load.specs.declared.fault.SettingsError.TheVariants.{ShelfFault}
use Rattle.settings_load.specs.Settings.{IsAcceptedFile}
use Rattle.ipencap_engine.specs.Jobs.{to_relay}
use Rattle.ipencap_engine.proofs.Plans.{told_name, still_known, still_none}
use Rattle.ipencap_engine.proofs.Settings.{runs_unsettled, outer_unsettled, runs_by, keeps_loaded, keeps_both}
use Rattle.ipencap_engine.proofs.Relayed.{relay_ends}
use Rattle.ipencap_engine.proofs.relay.relay_recording.Goals as goal

pub returns-in-Err : goal.returns-in-Err
returns-in-Err g c = λ rack.
    let e = c.in-Err.ensures in
    runs_by (to_relay c.args.inner.now c.args.outer.now) c.outcome_of.result _ _ _ _ c.outcome_of.ensures
    (runs_unsettled (to_relay c.args.inner.now c.args.outer.now) c.args.inner.now c.in-Err.error (g.S.Shelf.told c.args.shelf.now) (g.S.Shelf.told c.load_plan.new.shelf) (g.I.Source.told c.args.input.now) (g.O.Sink.told c.args.output.now) rack _
    refl refl e.unchanged e.others e.later (λ f. e.cause (ap (λ x. Err x) f)) (λ n. e.kept (λ f. n (let same : c.in-Err.error ≡ ShelfFault = cc in same)))
    e.refused (λ plan given. e.only given.bytes plan (told_name _ c.args.inner.now (g.S.Shelf.told c.load_plan.new.shelf) given.bytes refl given.told) given.gives) refl refl tt)

pub returns-in-Err-load_plan : goal.returns-in-Err-load_plan
returns-in-Err-load_plan g c = λ rack.
    let o = c.in-Ok.ensures in
    let e = c.in-Err-load_plan.ensures in
    runs_by (to_relay c.args.inner.now c.args.outer.now) c.outcome_of-in-Err-load_plan.result _ _ _ _ c.outcome_of-in-Err-load_plan.ensures
    (outer_unsettled (to_relay c.args.inner.now c.args.outer.now) c.args.inner.now c.args.outer.now (plan_fields c.in-Ok.plan) (g.S.Shelf.told c.args.shelf.now)
    (g.S.Shelf.told c.load_plan.new.shelf) (g.S.Shelf.told c.load_plan-2.new.shelf) (g.I.Source.told c.args.input.now) (g.O.Sink.told c.args.output.now) rack _
    refl refl refl (keeps_loaded (to_relay c.args.inner.now c.args.outer.now) c.args.inner.now (g.S.Shelf.told c.args.shelf.now) (g.S.Shelf.told c.load_plan.new.shelf) refl o.unchanged o.others o.later (o.kept (λ f. absurd (cc))))
    o.read e.unchanged e.others e.later refl refl tt
    c.in-Err-load_plan.error (λ f. e.cause (ap (λ x. Err x) f)) (λ n. e.kept (λ f. n (let same : c.in-Err-load_plan.error ≡ ShelfFault = cc in same)))
    e.refused (λ plan given. e.only given.bytes plan (told_name _ c.args.outer.now (g.S.Shelf.told c.load_plan-2.new.shelf) given.bytes refl given.told) given.gives))

pub returns : goal.returns
returns g c = λ rack.
    let o = c.in-Ok.ensures in
    let t = c.in-Ok-load_plan.ensures in
    runs_by (to_relay c.args.inner.now c.args.outer.now) c.from.result _ _ _ _ c.from.ensures
    (relay_ends c.args.inner.now c.args.outer.now (plan_fields c.in-Ok.plan) (plan_fields c.in-Ok-load_plan.plan) c.in-Ok.plan.whole (g.S.Shelf.told c.args.shelf.now) (g.S.Shelf.told c.load_plan-2.new.shelf)
    (g.I.Source.told c.args.input.now) (g.I.Source.told c.relay.new.input) (g.O.Sink.told c.args.output.now) (g.O.Sink.told c.relay.new.output) rack _
    (keeps_both (to_relay c.args.inner.now c.args.outer.now) c.args.outer.now (g.S.Shelf.told c.args.shelf.now) (g.S.Shelf.told c.load_plan.new.shelf) (g.S.Shelf.told c.load_plan-2.new.shelf) refl
    (keeps_loaded (to_relay c.args.inner.now c.args.outer.now) c.args.inner.now (g.S.Shelf.told c.args.shelf.now) (g.S.Shelf.told c.load_plan.new.shelf) refl o.unchanged o.others o.later (o.kept (λ f. absurd (cc))))
    t.unchanged t.others t.later (t.kept (λ f. absurd (cc))))
    (still_known (λ b. IsAcceptedFile b (plan_fields c.in-Ok.plan)) ((g.S.Shelf.told c.load_plan.new.shelf).file c.args.inner.now) ((g.S.Shelf.told c.load_plan-2.new.shelf).file c.args.inner.now)
    (t.unchanged c.args.inner.now) o.read)
    (still_none ((g.S.Shelf.told c.load_plan.new.shelf).file c.args.inner.now) ((g.S.Shelf.told c.load_plan-2.new.shelf).file c.args.inner.now) (plan_fields c.in-Ok.plan)
    (t.unchanged c.args.inner.now) o.read o.fails)
    t.read t.fails
    tt (c.relay.new.output ≡ c.args.output.now) (λ same. same) c.relay.result c.relay.ensures.relays)
