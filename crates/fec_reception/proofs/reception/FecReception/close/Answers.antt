use Rattle.std.proofs.Common.{refl}
use Rattle.fec_reception.specs.Reception.{added_by_end}
use Rattle.fec_reception.proofs.Taken.{told_if_ok, stopped_if_not}
use Rattle.fec_reception.proofs.reception.FecReception.close.Goals as goal

pub returns-clause-delivered : goal.returns-clause-delivered
returns-clause-delivered g c = λ timing rows pid records receiving.
    told_if_ok g.T.Outlet.StandsFor g.T.Outlet.Refused c.args.service (added_by_end timing rows pid records) (added_by_end timing rows pid records)
    c.args.outlet.now c.close_after.new.outlet tt c.close_after.result refl (c.close_after.ensures.delivered timing rows pid records receiving)

pub returns-clause-failed : goal.returns-clause-failed
returns-clause-failed g c = λ timing rows pid records receiving.
    stopped_if_not g.T.Outlet.StandsFor g.T.Outlet.Refused c.args.service (added_by_end timing rows pid records) (added_by_end timing rows pid records)
    c.args.outlet.now c.close_after.new.outlet tt c.close_after.result refl (c.close_after.ensures.delivered timing rows pid records receiving)
