use Rattle.std.proofs.Common.{◌∙◌, ◌++◌, sym, ap, subst, []}
use Rattle.fec_frame_spec.specs.Delivered.{datagrams_of_frames}
use Rattle.fec_reception.specs.Reading.{timed_in}
use Rattle.fec_reception.specs.Steps.{frame_with, cut_off}
use Rattle.fec_reception.specs.Reception.{FramesState}
use Rattle.fec_reception.specs.Hearing.{HasFrames}
use Rattle.outlet_spec.proofs.Going.{after_same, after_none}
use Rattle.fec_reception.proofs.Joined.{joined_open, joined_next, cut_none, cut_one}
use Rattle.fec_reception.proofs.frames.Frames.join.Goals as goal

pub returns-then-place-clause-joined : goal.returns-then-place-clause-joined
returns-then-place-clause-joined g c = λ timing rows closed group has.
    joined_open timing rows closed group (timed_in c.args.moment c.args.section.now) c.place.new.self
    (sym c.if-place.true ∙ c.place.ensures.cut timing rows closed group has) (c.place.ensures.placed timing rows closed group has c.if-place.true)

pub returns-then-place-clause-delivered : goal.returns-then-place-clause-delivered
returns-then-place-clause-delivered g c = λ timing rows closed group has.
    let x = timed_in c.args.moment c.args.section.now in
    after_same g.T.Outlet.StandsFor g.T.Outlet.Refused g.T.Outlet.services g.T.Outlet.faults c.args.service
    [] (datagrams_of_frames rows (cut_off timing rows group x)) _ _
    (sym (ap (datagrams_of_frames rows) (cut_none timing rows closed group x (sym c.if-place.true ∙ c.place.ensures.cut timing rows closed group has))))
    (after_none g.T.Outlet.StandsFor g.T.Outlet.Refused g.T.Outlet.services g.T.Outlet.faults c.args.service _)

pub returns-clause-joined : goal.returns-clause-joined
returns-clause-joined g c = λ timing rows closed group has.
    let x = timed_in c.args.moment c.args.section.now in
    let same = subst (λ (s : FramesState). HasFrames timing rows closed group s) (sym (c.place.ensures.unchanged c.if-place.false)) has in
    let empty = c.close-went.ensures.closed timing rows closed group same in
    joined_next timing rows closed group x c.place-2.new.self (sym c.if-place.false ∙ c.place.ensures.cut timing rows closed group has)
    (c.place-2.ensures.placed timing rows (closed ++ frame_with group) [] empty (c.place-2.ensures.cut timing rows (closed ++ frame_with group) [] empty))

pub returns-clause-delivered : goal.returns-clause-delivered
returns-clause-delivered g c = λ timing rows closed group has.
    let x = timed_in c.args.moment c.args.section.now in
    let same = subst (λ (s : FramesState). HasFrames timing rows closed group s) (sym (c.place.ensures.unchanged c.if-place.false)) has in
    after_same g.T.Outlet.StandsFor g.T.Outlet.Refused g.T.Outlet.services g.T.Outlet.faults c.args.service
    (datagrams_of_frames rows (frame_with group)) (datagrams_of_frames rows (cut_off timing rows group x)) _ _
    (sym (ap (datagrams_of_frames rows) (cut_one timing rows closed group x (sym c.if-place.false ∙ c.place.ensures.cut timing rows closed group has))))
    (c.close-went.ensures.delivered timing rows closed group same)
