use Rattle.std.proofs.Common.{refl, ap, sym, subst, ◌∙◌}
use Rattle.fec_frame_spec.specs.Sections.{sections_of}
use Rattle.time_slice.specs.Views.{with_seen}
use Rattle.fec_reception.specs.Reading.{timed_in}
use Rattle.fec_reception.specs.Reception.{FramesState}
use Rattle.fec_reception.specs.Hearing.{HasFrames}
use Rattle.fec_reception.proofs.Placed.{placed_more, same_time}
use Rattle.fec_reception.proofs.frames.Frames.place.Goals as goal

pub returns-clause-placed : goal.returns-clause-placed
returns-clause-placed g c = λ timing rows closed group has said.
    let now = subst (λ (s : FramesState). HasFrames timing rows closed group s) (sym c.self.view_is) has in
    placed_more timing rows closed group _ _ now (timed_in c.args.moment c.args.section.now)
    (c.place_in.ensures.placed (sections_of group) now.stands c.if-not-place_in.false) c.place_in.ensures.rows
    (c.see.ensures.seen ∙ ap (with_seen c.self.inside.membership.timing) (same_time c.args.moment c.real_time-real_time.result c.args.section.now c.real_time-real_time.ensures.read))
    refl
