use Rattle.std.proofs.Common.{[], sym, ap, ◌∙◌}
use Rattle.reception_law.specs.Words.{closed_by}
use Rattle.outlet_spec.proofs.Going.{after_none, after_same}
use Rattle.demux_core.specs.Moving.{where_left}
use Rattle.demux_core.proofs.switch.follow.Goals as goal

pub returns-in-None-clause-delivered : goal.returns-in-None-clause-delivered
returns-in-None-clause-delivered g c = λ form it records h.
    after_same g.T.Outlet.StandsFor g.T.Outlet.Refused g.T.Outlet.services g.T.Outlet.faults c.args.service [] _ _ _
    (ap (λ o. where_left o c.args.receiver.now.pid (closed_by form it records)) (sym c.in-None.is ∙ c.pid_in.ensures.read))
    (after_none g.T.Outlet.StandsFor g.T.Outlet.Refused g.T.Outlet.services g.T.Outlet.faults c.args.service (record { outlet = c.args.outlet.now; went = c.args.went }))
