use Rattle.std.proofs.Common.{◌≡◌, ◌≤◌, ◌^◌, ℕ, List, length, false}
use Rattle.ts_spec.specs.Recording.{Record}
use Rattle.plan.specs.PlanView.{plan_fields}
use Rattle.demux_core.specs.Places.{AreFound}
use Rattle.demux_core.specs.Services.{HaveReceived}
use Rattle.demux_core.specs.Moving.{closed_at}
use Rattle.demux_core.proofs.Closing.{AreSet, AreLeft, HasGone, HasGoneOn, HasClosed, pairs_below}
use Rattle.demux_core.proofs.switch.close_services.Given as goal

-- those before the place are closed, and the others stay; what those before it give is delivered
abbrev pub invariant-loop-at : goal.invariant-loop-at
invariant-loop-at g l =
    (length l.services.receivers.items ≡ length l.initial.services.receivers.items)
    × AreFound l.services
    × (l.at ≤ length l.initial.services.receivers.items)
    × AreSet HasClosed l.at l.initial.services.receivers.items l.services.receivers.items
    × AreLeft l.at l.initial.services.receivers.items l.services.receivers.items
    × HasGoneOn g.T.Outlet.services g.T.Outlet.faults l.initial.outlet (record { outlet = l.outlet; went = l.went })
    × ((version : ℕ) (records : List Record) → length records ≤ 2 ^ 32 → HaveReceived false (plan_fields l.plan) version l.initial.services.receivers.items records
    → HasGone g.T.Outlet.StandsFor g.T.Outlet.Refused (pairs_below (closed_at (plan_fields l.plan) version records) l.at) l.initial.outlet (record { outlet = l.outlet; went = l.went }))
