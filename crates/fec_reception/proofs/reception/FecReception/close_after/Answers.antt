use Rattle.std.proofs.Common.{sym, subst, false}
use Rattle.fec_frame_spec.specs.Delivered.{datagrams_of_frames}
use Rattle.fec_reception.specs.Frames.{closed_in, open_in}
use Rattle.fec_reception.specs.Steps.{frame_with}
use Rattle.fec_reception.specs.Reception.{FecReceptionState, HasTaken, added_by_end}
use Rattle.outlet_spec.proofs.Going.{after_same}
use Rattle.fec_reception.proofs.Taken.{frames_of, ended_of, told_by_end}
use Rattle.fec_reception.proofs.reception.FecReception.close_after.Goals as goal

pub returns-clause-ended : goal.returns-clause-ended
returns-clause-ended g c = λ timing rows pid records receiving.
    let taken = subst (λ (s : FecReceptionState). HasTaken timing rows pid s records) (sym c.self.view_is) receiving.received in
    ended_of timing rows pid records _ _ receiving.few taken c.close.ensures.packets c.close.ensures.unread
    (c.close.ensures.closed timing rows (closed_in false timing rows pid records) (open_in timing rows pid records) (frames_of timing rows pid records _ taken))

pub returns-clause-delivered : goal.returns-clause-delivered
returns-clause-delivered g c = λ timing rows pid records receiving.
    let taken = subst (λ (s : FecReceptionState). HasTaken timing rows pid s records) (sym c.self.view_is) receiving.received in
    after_same g.T.Outlet.StandsFor g.T.Outlet.Refused g.T.Outlet.services g.T.Outlet.faults c.args.service
    (datagrams_of_frames rows (frame_with (open_in timing rows pid records))) (added_by_end timing rows pid records) _ _
    (told_by_end timing rows pid records)
    (c.close.ensures.delivered timing rows (closed_in false timing rows pid records) (open_in timing rows pid records) (frames_of timing rows pid records _ taken))
