-- Some datagrams of the frame were offered, and those that the walk has still to find are left.
use Rattle.frame_walk.specs.Views.{left_of}
use Rattle.fec_reception.proofs.Deliveries.{HaveGone}
use Rattle.fec_reception.proofs.delivery.deliver_frame.Given as goal

abbrev pub invariant-loop-datagram : goal.invariant-loop-datagram
invariant-loop-datagram g l =
    HaveGone g.T.Outlet.StandsFor g.T.Outlet.Refused g.T.Outlet.services g.T.Outlet.faults l.service l.table (left_of l.datagram-iterator) l.count
    (record { outlet = l.fn.outlet; went = l.fn.went }) (record { outlet = l.outlet; went = l.went })
