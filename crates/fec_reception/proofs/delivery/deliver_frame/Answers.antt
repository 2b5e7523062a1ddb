use Rattle.std.proofs.Common.{ap, ◌∙◌}
use Rattle.frame_walk.specs.Views.{left_of}
use Rattle.fec_reception.proofs.Deliveries.{gone_none, gone_more}
use Rattle.fec_reception.proofs.delivery.deliver_frame.Goals as goal

pub loop-datagram-init : goal.loop-datagram-init
loop-datagram-init g c =
    gone_none g.T.Outlet.StandsFor g.T.Outlet.Refused g.T.Outlet.services g.T.Outlet.faults c.args.service c.args.table.now (left_of c.into_iter-datagram-iterator.result)
    (record { outlet = c.args.outlet.now; went = c.args.went }) c.requires.served
    (λ sections solved. ap left_of c.into_iter-datagram-iterator.ensures.into_iter_gives ∙ c.over-datagram-items.ensures.datagrams sections solved)

pub loop-datagram-preserved : goal.loop-datagram-preserved
loop-datagram-preserved g c =
    rw c.saturating_add-count.ensures
    (gone_more g.T.Outlet.StandsFor g.T.Outlet.Refused g.T.Outlet.services g.T.Outlet.faults c.args.service c.args.table.now
    (left_of c.loop-datagram.datagram-iterator) (left_of c.next.new.self) c.in-Some.datagram.now c.loop-datagram.count _ _ _
    c.loop-datagram.invariant c.in-Some.ensures.steps c.deliver_one-went.ensures.goes c.deliver_one-went.ensures.delivered)
