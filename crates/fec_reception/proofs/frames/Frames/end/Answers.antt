use Rattle.std.proofs.Common.{◌∙◌, sym, true, false, []}
use Rattle.fec_frame_spec.specs.Delivered.{datagrams_of_frames}
use Rattle.fec_reception.specs.Reading.{timed_in}
use Rattle.fec_reception.specs.Steps.{frame_with, ended_by}
use Rattle.outlet_spec.proofs.Going.{after_same, after_none}
use Rattle.fec_reception.proofs.Joined.{ended_one, ended_told}
use Rattle.fec_reception.proofs.frames.Frames.end.Goals as goal

pub returns-then-ends_frame-clause-ended : goal.returns-then-ends_frame-clause-ended
returns-then-ends_frame-clause-ended g c = λ timing rows closed group has.
    ended_one timing rows closed group (timed_in c.args.moment c.args.section.now) c.close.new.self (sym c.ends_frame.ensures.read ∙ c.if-ends_frame.true)
    (c.close.ensures.closed timing rows closed group has)

pub returns-then-ends_frame-clause-delivered : goal.returns-then-ends_frame-clause-delivered
returns-then-ends_frame-clause-delivered g c = λ timing rows closed group has.
    after_same g.T.Outlet.StandsFor g.T.Outlet.Refused g.T.Outlet.services g.T.Outlet.faults c.args.service
    (datagrams_of_frames rows (frame_with group)) (datagrams_of_frames rows (ended_by (timed_in c.args.moment c.args.section.now) group)) _ _
    (sym (ended_told timing rows closed group (timed_in c.args.moment c.args.section.now) true (sym c.ends_frame.ensures.read ∙ c.if-ends_frame.true)))
    (c.close.ensures.delivered timing rows closed group has)

pub returns-else-ends_frame-clause-delivered : goal.returns-else-ends_frame-clause-delivered
returns-else-ends_frame-clause-delivered g c = λ timing rows closed group has.
    after_same g.T.Outlet.StandsFor g.T.Outlet.Refused g.T.Outlet.services g.T.Outlet.faults c.args.service
    [] (datagrams_of_frames rows (ended_by (timed_in c.args.moment c.args.section.now) group)) _ _
    (sym (ended_told timing rows closed group (timed_in c.args.moment c.args.section.now) false (sym c.ends_frame.ensures.read ∙ c.if-ends_frame.false)))
    (after_none g.T.Outlet.StandsFor g.T.Outlet.Refused g.T.Outlet.services g.T.Outlet.faults c.args.service _)
