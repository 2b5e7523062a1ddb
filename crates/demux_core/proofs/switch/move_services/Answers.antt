use Rattle.std.proofs.Common.{◌≡◌, ℕ, ◌<◌, Some, length, refl, arith, sym, subst, ◌∙◌, OnOk, OnErr}
use Rattle.std.specs.Prelude.{slice_get}
use Rattle.std.proofs.lemmas.List.{length-set, length-map}
use Rattle.std.proofs.lemmas.Option.{slice_get_read, slice_get_within}
use Rattle.plan_spec.specs.Changes.{pid_in}
use Rattle.plan.specs.Parts.{service_seen}
use Rattle.plan.specs.PlanView.{plan_fields}
use Rattle.outlet_spec.specs.Pairs.{Delivers, DeliversFront}
use Rattle.demux_core.specs.Moving.{Follows, closed_by_switch}
use Rattle.demux_core.proofs.Closing.{set_next, left_next, on_then, one_switched, pairs_below}
use Rattle.demux_core.proofs.switch.move_services.Goals as goal

pub loop-at-preserved : goal.loop-at-preserved
loop-at-preserved g c =
    let below : c.loop-at.at < length c.loop-at.services.receivers.items = grind (arith, c.loop-at-test.true, c.len-at-end.ensures, c.loop-at.invariant.0) in
    let there : slice_get c.loop-at.services.receivers.items c.loop-at.at ≡ Some c.index_mut.result.now
    = slice_get_read c.loop-at.services.receivers.items (length c.loop-at.services.receivers.items) c.loop-at.at c.index_mut.result.now refl below c.index_mut.ensures.value in (
      length-set c.loop-at.services.receivers.items c.loop-at.at c.follow-went.new.receiver ∙ c.loop-at.invariant.0,
      c.loop-at.invariant.1,
      grind (arith, c.loop-at-test.true, c.len-at-end.ensures),
      set_next (λ k old new. Follows (pid_in (plan_fields c.args.plan.now) c.args.version k) old new) c.args.services.now.receivers.items c.loop-at.services.receivers.items c.loop-at.at
          c.index_mut.result.now c.follow-went.new.receiver c.loop-at.invariant.3 c.loop-at.invariant.4 there c.follow-went.ensures.followed,
      left_next c.args.services.now.receivers.items c.loop-at.services.receivers.items c.loop-at.at c.follow-went.new.receiver c.loop-at.invariant.4,
      on_then g.T.Outlet.services g.T.Outlet.faults c.args.outlet.now _ _ c.loop-at.invariant.5 c.follow-went.ensures.goes,
      λ was records few has.
          one_switched (plan_fields c.args.plan.now) was c.args.services.now.receivers.items records few has g.T.Outlet.StandsFor g.T.Outlet.Refused g.T.Outlet.services g.T.Outlet.faults
          c.args.outlet.now _ _ c.follow-went.ensures.goes c.loop-at.at c.index_mut.result.now (sym (c.loop-at.invariant.4 c.loop-at.at (omega arith)) ∙ there)
          c.args.version (c.loop-at.invariant.6 was records few has) c.follow-went.ensures.delivered,
    )

pub returns-clause-followed : goal.returns-clause-followed
returns-clause-followed g c = λ k old new found found_now.
    c.loop-at.invariant.3 k old new
    (grind (arith, slice_get_within c.args.services.now.receivers.items k old found, c.loop-at-test.false, c.len-at-end.ensures, c.loop-at.invariant.0)) found found_now

pub returns-clause-delivered : goal.returns-clause-delivered
returns-clause-delivered g c = λ was records few has.
    let whole : c.loop-at.at ≡ length (plan_fields c.args.plan.now).services = grind (arith, c.loop-at-test.false, c.len-at-end.ensures, c.loop-at.invariant.0, c.loop-at.invariant.2, c.requires.count, length-map c.args.plan.now.services service_seen) in
    subst (λ (n : ℕ). OnOk c.loop-at.went (Delivers (g.T.Outlet.StandsFor c.args.outlet.now) (g.T.Outlet.StandsFor c.loop-at.outlet) (pairs_below (closed_by_switch (plan_fields c.args.plan.now) was c.args.version records) n))) whole
    (c.loop-at.invariant.6 was records few has).told

pub returns-clause-failed : goal.returns-clause-failed
returns-clause-failed g c = λ was records few has.
    let whole : c.loop-at.at ≡ length (plan_fields c.args.plan.now).services = grind (arith, c.loop-at-test.false, c.len-at-end.ensures, c.loop-at.invariant.0, c.loop-at.invariant.2, c.requires.count, length-map c.args.plan.now.services service_seen) in
    subst (λ (n : ℕ). OnErr c.loop-at.went (DeliversFront (g.T.Outlet.StandsFor c.args.outlet.now) (g.T.Outlet.StandsFor c.loop-at.outlet) (g.T.Outlet.Refused c.loop-at.outlet) (pairs_below (closed_by_switch (plan_fields c.args.plan.now) was c.args.version records) n))) whole
    (c.loop-at.invariant.6 was records few has).failed
