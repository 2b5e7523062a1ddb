use Rattle.std.proofs.Common.{◌≡◌, ◌≤◌, ◌^◌, ℕ, List, length, false}
use Rattle.ts_spec.specs.Recording.{Record}
use Rattle.plan_spec.specs.Changes.{pid_in}
use Rattle.plan.specs.PlanView.{plan_fields}
use Rattle.demux_core.specs.Services.{HaveReceived}
use Rattle.demux_core.specs.Moving.{Follows, closed_by_switch}
use Rattle.demux_core.proofs.Closing.{AreSet, AreLeft, HasGone, HasGoneOn, pairs_below}
use Rattle.demux_core.proofs.switch.move_services.Given as goal

-- those before the place follow, and the others stay; what those before it leave is delivered
abbrev pub invariant-loop-at : goal.invariant-loop-at
invariant-loop-at g l =
    (length l.services.receivers.items ≡ length l.initial.services.receivers.items)
    × (l.services.places ≡ l.initial.services.places)
    × (l.at ≤ length l.initial.services.receivers.items)
    × AreSet (λ k old new. Follows (pid_in (plan_fields l.plan) l.version k) old new) l.at l.initial.services.receivers.items l.services.receivers.items
    × AreLeft l.at l.initial.services.receivers.items l.services.receivers.items
    × HasGoneOn g.T.Outlet.services g.T.Outlet.faults l.initial.outlet (record { outlet = l.outlet; went = l.went })
    × ((was : ℕ) (records : List Record) → length records ≤ 2 ^ 32 → HaveReceived false (plan_fields l.plan) was l.initial.services.receivers.items records
    → HasGone g.T.Outlet.StandsFor g.T.Outlet.Refused (pairs_below (closed_by_switch (plan_fields l.plan) was l.version records) l.at) l.initial.outlet (record { outlet = l.outlet; went = l.went }))
