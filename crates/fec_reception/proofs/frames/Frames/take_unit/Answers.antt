use Rattle.std.proofs.Common.{◌≡◌, ◌∙◌, ◌∷◌, [], ◌++◌, ℕ, sym, ap, subst, refl}
use Rattle.wire_spec.specs.Causes.{raised}
use Rattle.fec_frame_spec.specs.Sections.{frame_sections_in, timed_sections_in}
use Rattle.fec_reception.specs.Reading.{section_in, timed_in}
use Rattle.fec_reception.specs.Steps.{cut_off, joined_by}
use Rattle.fec_reception.specs.Reception.{FramesState}
use Rattle.fec_reception.specs.Hearing.{HasFrames}
use Rattle.fec_reception.proofs.Joined.{same_frames}
use Rattle.fec_reception.proofs.Units.{unread_one, unread_none, timed_none, timed_one, framed_none, framed_one, delivered_none, delivered_one}
use Rattle.fec_reception.proofs.frames.Frames.take_unit.Goals as goal

pub returns-in-None-clause-unread : goal.returns-in-None-clause-unread
returns-in-None-clause-unread g c = λ is_unit.
    let rows = sym c.self.invariant.0 ∙ ap (λ (s : FramesState). s.table.rows) c.self.view_is in
    let none : [] ≡ frame_sections_in c.args.self.now.table.rows c.args.unit.now =
    c.in-None.ensures.read is_unit ∙ ap (λ (r : ℕ). frame_sections_in r c.args.unit.now) rows in
    c.count_unread.ensures.unread ∙ ap (λ (s : FramesState). raised s.unread 1) c.self.view_is
    ∙ unread_one c.args.self.now.table.rows c.args.unit.now c.args.self.now.unread none

pub returns-in-None-clause-framed : goal.returns-in-None-clause-framed
returns-in-None-clause-framed g c = λ timing rows closed group is_unit has.
    let now = subst (λ (s : FramesState). HasFrames timing rows closed group s) (sym c.self.view_is) has in
    let none : [] ≡ frame_sections_in rows c.args.unit.now =
    c.in-None.ensures.read is_unit ∙ ap (λ (r : ℕ). frame_sections_in r c.args.unit.now) (sym c.self.invariant.0 ∙ now.over.rows_are) in
    framed_none timing rows closed group (timed_sections_in rows c.args.moment c.args.unit.now) _ (timed_none rows c.args.unit.now c.args.moment none)
    (same_frames timing rows closed group _ _ refl refl c.count_unread.ensures.frames now)

pub returns-in-None-clause-delivered : goal.returns-in-None-clause-delivered
returns-in-None-clause-delivered g c = λ timing rows closed group is_unit has.
    let now = subst (λ (s : FramesState). HasFrames timing rows closed group s) (sym c.self.view_is) has in
    let none : [] ≡ frame_sections_in rows c.args.unit.now =
    c.in-None.ensures.read is_unit ∙ ap (λ (r : ℕ). frame_sections_in r c.args.unit.now) (sym c.self.invariant.0 ∙ now.over.rows_are) in
    delivered_none g.T.Outlet.StandsFor g.T.Outlet.Refused g.T.Outlet.services g.T.Outlet.faults c.args.service timing rows group
    (timed_sections_in rows c.args.moment c.args.unit.now) _ (timed_none rows c.args.unit.now c.args.moment none)

pub returns-in-Some-clause-unread : goal.returns-in-Some-clause-unread
returns-in-Some-clause-unread g c = λ is_unit.
    let rows = sym c.self.invariant.0 ∙ ap (λ (s : FramesState). s.table.rows) c.self.view_is in
    let one : section_in c.in-Some.section ∷ [] ≡ frame_sections_in c.args.self.now.table.rows c.args.unit.now =
    c.in-Some.ensures.read is_unit ∙ ap (λ (r : ℕ). frame_sections_in r c.args.unit.now) rows in
    c.end.ensures.unread ∙ c.join-went.ensures.unread ∙ unread_none c.args.self.now.table.rows c.args.unit.now c.args.self.now.unread (section_in c.in-Some.section) one

pub returns-in-Some-clause-framed : goal.returns-in-Some-clause-framed
returns-in-Some-clause-framed g c = λ timing rows closed group is_unit has.
    let now = subst (λ (s : FramesState). HasFrames timing rows closed group s) (sym c.self.view_is) has in
    let one : section_in c.in-Some.section ∷ [] ≡ frame_sections_in rows c.args.unit.now =
    c.in-Some.ensures.read is_unit ∙ ap (λ (r : ℕ). frame_sections_in r c.args.unit.now) (sym c.self.invariant.0 ∙ now.over.rows_are) in
    let x = timed_in c.args.moment c.in-Some.section in
    framed_one timing rows closed group (timed_sections_in rows c.args.moment c.args.unit.now) x c.end.new.self (timed_one rows c.args.unit.now c.args.moment c.in-Some.section one)
    (c.end.ensures.ended timing rows (closed ++ cut_off timing rows group x) (joined_by timing rows group x) (c.join-went.ensures.joined timing rows closed group has))

pub returns-in-Some-clause-delivered : goal.returns-in-Some-clause-delivered
returns-in-Some-clause-delivered g c = λ timing rows closed group is_unit has.
    let now = subst (λ (s : FramesState). HasFrames timing rows closed group s) (sym c.self.view_is) has in
    let one : section_in c.in-Some.section ∷ [] ≡ frame_sections_in rows c.args.unit.now =
    c.in-Some.ensures.read is_unit ∙ ap (λ (r : ℕ). frame_sections_in r c.args.unit.now) (sym c.self.invariant.0 ∙ now.over.rows_are) in
    let x = timed_in c.args.moment c.in-Some.section in
    delivered_one g.T.Outlet.StandsFor g.T.Outlet.Refused g.T.Outlet.services g.T.Outlet.faults c.args.service timing rows group
    (timed_sections_in rows c.args.moment c.args.unit.now) closed x _ _ _ (timed_one rows c.args.unit.now c.args.moment c.in-Some.section one)
    (c.join-went.ensures.delivered timing rows closed group has)
    (c.end.ensures.delivered timing rows (closed ++ cut_off timing rows group x) (joined_by timing rows group x) (c.join-went.ensures.joined timing rows closed group has))
    c.end.ensures.goes
