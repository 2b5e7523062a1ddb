use Rattle.std.proofs.Common.{◌∙◌, ℕ, length, sym, ap, subst}
use Rattle.wire_spec.specs.Causes.{raised}
use Rattle.fec_frame_spec.specs.Sections.{sections_of}
use Rattle.fec_frame_spec.specs.Known.{known_byte}
use Rattle.fec_frame_spec.specs.Corrected.{mended_rows, left_rows}
use Rattle.fec_frame_spec.specs.Delivered.{frame_datagrams, datagrams_of_frames}
use Rattle.fec_reception.specs.Steps.{frame_with}
use Rattle.fec_reception.specs.Reception.{FramesState}
use Rattle.fec_reception.specs.Hearing.{HasFrames}
use Rattle.outlet_spec.proofs.Going.{after_same}
use Rattle.fec_reception.proofs.Placed.{not_none, closed_some, told_some}
use Rattle.fec_reception.proofs.frames.Frames.close.Goals as goal

pub returns-clause-closed : goal.returns-clause-closed
returns-clause-closed g c = λ timing rows closed group has.
    let now = subst (λ (s : FramesState). HasFrames timing rows closed group s) (sym c.self.view_is) has in
    let some = not_none c.is_empty.result (length (sections_of group)) (c.is_empty.ensures.stands (sections_of group) now.stands) c.if-is_empty.false in
    closed_some timing rows closed group _ _ now some c.solve-rows.result.mended c.solve-rows.result.left c.deliver_frame-datagrams.result.0
    (c.solve-rows.ensures.mended (sections_of group) now.stands ∙ ap (λ (r : ℕ). mended_rows r (known_byte r (sections_of group))) now.over.rows_are)
    (c.solve-rows.ensures.left (sections_of group) now.stands ∙ ap (λ (r : ℕ). left_rows r (known_byte r (sections_of group))) now.over.rows_are)
    (c.deliver_frame-datagrams.ensures.counted (sections_of group) (c.solve-rows.ensures.solved (sections_of group) now.stands)
    ∙ ap (λ (r : ℕ). raised 0 (length (frame_datagrams r (sections_of group)))) (c.solve-rows.ensures.rows ∙ now.over.rows_are))
    c.clear.ensures.stands (c.clear.ensures.rows ∙ c.solve-rows.ensures.rows) c.forget.ensures.none c.count_frame.ensures.frames

pub returns-clause-delivered : goal.returns-clause-delivered
returns-clause-delivered g c = λ timing rows closed group has.
    let now = subst (λ (s : FramesState). HasFrames timing rows closed group s) (sym c.self.view_is) has in
    let some = not_none c.is_empty.result (length (sections_of group)) (c.is_empty.ensures.stands (sections_of group) now.stands) c.if-is_empty.false in
    after_same g.T.Outlet.StandsFor g.T.Outlet.Refused g.T.Outlet.services g.T.Outlet.faults c.args.service
    (frame_datagrams c.solve-rows.new.self.rows (sections_of group)) (datagrams_of_frames rows (frame_with group)) _ _
    (ap (λ (r : ℕ). frame_datagrams r (sections_of group)) (c.solve-rows.ensures.rows ∙ now.over.rows_are)
    ∙ told_some timing rows closed group c.args.self.now c.args.self.now has some)
    (c.deliver_frame-datagrams.ensures.delivered (sections_of group) (c.solve-rows.ensures.solved (sections_of group) now.stands))
