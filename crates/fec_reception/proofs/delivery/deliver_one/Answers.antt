use Rattle.outlet_spec.proofs.Going.{after_one}
use Rattle.fec_reception.proofs.delivery.deliver_one.Goals as goal

pub returns-in-Ok-clause-delivered : goal.returns-in-Ok-clause-delivered
returns-in-Ok-clause-delivered g c =
    rw c.in-Ok.is
    (after_one g.T.Outlet.StandsFor g.T.Outlet.Refused g.T.Outlet.services g.T.Outlet.faults c.args.service c.args.datagram.now
    c.args.outlet.now c.deliver.new.self c.in-Ok.field-0 c.deliver.result c.deliver.ensures.written c.deliver.ensures.refused c.deliver.ensures.unchanged)
