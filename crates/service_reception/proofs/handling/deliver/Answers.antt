use Rattle.std.proofs.Common.{[], ◌∷◌, ap}
use Rattle.outlet_spec.specs.Pairs.{pairs_of}
use Rattle.outlet_spec.proofs.Pairs.{front_one}
use Rattle.service_reception.specs.Carried.{handling_datagrams}
use Rattle.service_reception.proofs.handling.deliver.Goals as goal

pub returns-in-Wanted-clause-failed : goal.returns-in-Wanted-clause-failed
returns-in-Wanted-clause-failed g c =
    front_one c.deliver.result (g.T.Outlet.StandsFor c.args.outlet.now) (g.T.Outlet.StandsFor c.deliver.new.self) (g.T.Outlet.Refused c.deliver.new.self) c.args.service c.in-Wanted.datagram.now
    (pairs_of c.args.service (handling_datagrams c.args.handling.now)) (ap (λ h. pairs_of c.args.service (handling_datagrams h)) c.in-Wanted.is) c.deliver.ensures.refused c.deliver.ensures.unchanged
