use Rattle.std.proofs.Common.{◌≡◌, ℕ, ◌<◌, Some, length, refl, arith, sym, subst, ◌∙◌, OnOk, OnErr}
use Rattle.std.specs.Prelude.{slice_get}
use Rattle.std.proofs.lemmas.List.{length-set, length-map}
use Rattle.std.proofs.lemmas.Option.{slice_get_read}
use Rattle.plan.specs.Parts.{service_seen}
use Rattle.plan.specs.PlanView.{plan_fields}
use Rattle.outlet_spec.specs.Pairs.{Delivers, DeliversFront}
use Rattle.demux_core.specs.Moving.{closed_at}
use Rattle.demux_core.proofs.Closing.{HasClosed, set_next, left_next, on_then, one_closed, places_stay, pairs_below, all_ended}
use Rattle.demux_core.proofs.switch.close_services.Goals as goal

pub loop-at-preserved : goal.loop-at-preserved
loop-at-preserved g c =
    let below : c.loop-at.at < length c.loop-at.services.receivers.items = grind (arith, c.loop-at-test.true, c.len-at-end.ensures, c.loop-at.invariant.0) in
    let there : slice_get c.loop-at.services.receivers.items c.loop-at.at ≡ Some c.index_mut.result.now
    = slice_get_read c.loop-at.services.receivers.items (length c.loop-at.services.receivers.items) c.loop-at.at c.index_mut.result.now refl below c.index_mut.ensures.value in (
      length-set c.loop-at.services.receivers.items c.loop-at.at c.close-went.new.self ∙ c.loop-at.invariant.0,
      record {
        size = c.loop-at.invariant.1.size;
        found = places_stay c.loop-at.services.places.items c.loop-at.services.receivers.items c.loop-at.at c.index_mut.result.now c.close-went.new.self
            there c.close-went.ensures.pid c.loop-at.invariant.1.found;
      },
      grind (arith, c.loop-at-test.true, c.len-at-end.ensures),
      set_next HasClosed c.args.services.now.receivers.items c.loop-at.services.receivers.items c.loop-at.at c.index_mut.result.now c.close-went.new.self
          c.loop-at.invariant.3 c.loop-at.invariant.4 there (record {
            pid_same = c.close-went.ensures.pid;
            before_same = c.close-went.ensures.before;
            closes = c.close-went.ensures.closed;
          }),
      left_next c.args.services.now.receivers.items c.loop-at.services.receivers.items c.loop-at.at c.close-went.new.self c.loop-at.invariant.4,
      on_then g.T.Outlet.services g.T.Outlet.faults c.args.outlet.now _ _ c.loop-at.invariant.5 c.close-went.ensures.goes,
      λ version records few has.
          one_closed (plan_fields c.args.plan.now) version c.args.services.now.receivers.items records few has g.T.Outlet.StandsFor g.T.Outlet.Refused g.T.Outlet.services g.T.Outlet.faults
          c.args.outlet.now _ _ c.close-went.ensures.goes c.loop-at.at c.index_mut.result.now (sym (c.loop-at.invariant.4 c.loop-at.at (omega arith)) ∙ there)
          (c.loop-at.invariant.6 version records few has) c.close-went.ensures.delivered,
    )

pub returns-clause-ended : goal.returns-clause-ended
returns-clause-ended g c = λ version records few has.
    all_ended (plan_fields c.args.plan.now) version c.args.services.now.receivers.items records few has c.loop-at.services.receivers.items c.loop-at.at
    c.loop-at.invariant.0 (grind (arith, c.loop-at-test.false, c.len-at-end.ensures, c.loop-at.invariant.0)) c.loop-at.invariant.3

pub returns-clause-delivered : goal.returns-clause-delivered
returns-clause-delivered g c = λ version records few has.
    let whole : c.loop-at.at ≡ length (plan_fields c.args.plan.now).services = grind (arith, c.loop-at-test.false, c.len-at-end.ensures, c.loop-at.invariant.0, c.loop-at.invariant.2, c.requires.count, length-map c.args.plan.now.services service_seen) in
    subst (λ (n : ℕ). OnOk c.loop-at.went (Delivers (g.T.Outlet.StandsFor c.args.outlet.now) (g.T.Outlet.StandsFor c.loop-at.outlet) (pairs_below (closed_at (plan_fields c.args.plan.now) version records) n))) whole
    (c.loop-at.invariant.6 version records few has).told

pub returns-clause-failed : goal.returns-clause-failed
returns-clause-failed g c = λ version records few has.
    let whole : c.loop-at.at ≡ length (plan_fields c.args.plan.now).services = grind (arith, c.loop-at-test.false, c.len-at-end.ensures, c.loop-at.invariant.0, c.loop-at.invariant.2, c.requires.count, length-map c.args.plan.now.services service_seen) in
    subst (λ (n : ℕ). OnErr c.loop-at.went (DeliversFront (g.T.Outlet.StandsFor c.args.outlet.now) (g.T.Outlet.StandsFor c.loop-at.outlet) (g.T.Outlet.Refused c.loop-at.outlet) (pairs_below (closed_at (plan_fields c.args.plan.now) version records) n))) whole
    (c.loop-at.invariant.6 version records few has).failed
