-- A section of a unit: it joins the open frame or begins the next one, and may end it.
use Rattle.std.proofs.Common.{◌≡◌, ℕ, Bool, true, false, not, cond, List, [], ◌∷◌, ◌++◌, refl, ap, sym, ◌∙◌, subst, append_assoc, append-nil}
use Rattle.slice_spec.specs.Sections.{Timing}
use Rattle.fec_frame_spec.specs.Sections.{TimedSection, sections_of, ends_frame}
use Rattle.fec_frame.specs.Stands.{TableState, Stands}
use Rattle.time_slice.specs.Views.{Seen}
use Rattle.fec_frame_spec.specs.Groups.{is_cut}
use Rattle.fec_frame_spec.specs.Delivered.{datagrams_of_frames}
use Rattle.fec_reception.specs.Steps.{frame_with, cut_off, joined_by, ended_by, left_by, closed_with, open_with}
use Rattle.fec_reception.specs.Reception.{FramesState}
use Rattle.fec_reception.specs.Hearing.{HasFrames}
use Rattle.fec_reception.proofs.Numbers.{told-append}

not_true : (b : Bool) → true ≡ not b → b ≡ false
not_true true e = cc
not_true false e = refl

not_false : (b : Bool) → false ≡ not b → b ≡ true
not_false true e = refl
not_false false e = cc

module _ (timing : Timing) (rows : ℕ) (closed : List (List TimedSection)) (group : List TimedSection) (x : TimedSection) where
  -- it joins the open frame
  pub cut_none : true ≡ not (is_cut timing rows group x) → cut_off timing rows group x ≡ []
  cut_none fits = ap (λ (b : Bool). cond {A = List (List TimedSection)} b (frame_with group) []) (not_true (is_cut timing rows group x) fits)

  pub joined_open : (state : FramesState) → true ≡ not (is_cut timing rows group x) → HasFrames timing rows closed (group ++ x ∷ []) state
      → HasFrames timing rows (closed ++ cut_off timing rows group x) (joined_by timing rows group x) state
  joined_open state fits has =
      let uncut : is_cut timing rows group x ≡ false = not_true (is_cut timing rows group x) fits in
      subst (λ (b : Bool). HasFrames timing rows (closed ++ cond b (frame_with group) []) (cond b (x ∷ []) (group ++ x ∷ [])) state) (sym uncut)
      (subst (λ (l : List (List TimedSection)). HasFrames timing rows l (group ++ x ∷ []) state) (sym (append-nil closed)) has)

  -- it begins the next one
  pub cut_one : false ≡ not (is_cut timing rows group x) → cut_off timing rows group x ≡ frame_with group
  cut_one cut = ap (λ (b : Bool). cond {A = List (List TimedSection)} b (frame_with group) []) (not_false (is_cut timing rows group x) cut)

  pub joined_next : (state : FramesState) → false ≡ not (is_cut timing rows group x) → HasFrames timing rows (closed ++ frame_with group) (x ∷ []) state
      → HasFrames timing rows (closed ++ cut_off timing rows group x) (joined_by timing rows group x) state
  joined_next state cut has =
      subst (λ (b : Bool). HasFrames timing rows (closed ++ cond b (frame_with group) []) (cond b (x ∷ []) (group ++ x ∷ [])) state)
      (sym (not_false (is_cut timing rows group x) cut)) has

  -- it ends its frame, or not
  pub ended_one : (state : FramesState) → ends_frame x.section ≡ true → HasFrames timing rows (closed ++ frame_with group) [] state
      → HasFrames timing rows (closed ++ ended_by x group) (left_by x group) state
  ended_one state ends has = subst (λ (b : Bool). HasFrames timing rows (closed ++ cond b (frame_with group) []) (cond b [] group) state) (sym ends) has

  pub ended_none : (state : FramesState) → ends_frame x.section ≡ false → HasFrames timing rows closed group state
      → HasFrames timing rows (closed ++ ended_by x group) (left_by x group) state
  ended_none state unended has =
      subst (λ (b : Bool). HasFrames timing rows (closed ++ cond b (frame_with group) []) (cond b [] group) state) (sym unended)
      (subst (λ (l : List (List TimedSection)). HasFrames timing rows l group state) (sym (append-nil closed)) has)

  pub ended_told : (b : Bool) → ends_frame x.section ≡ b → datagrams_of_frames rows (ended_by x group) ≡ datagrams_of_frames rows (cond b (frame_with group) [])
  ended_told b is = ap (λ (c : Bool). datagrams_of_frames rows (cond c (frame_with group) [])) is

  -- both
  pub taken_one : (state : FramesState)
      → HasFrames timing rows ((closed ++ cut_off timing rows group x) ++ ended_by x (joined_by timing rows group x)) (left_by x (joined_by timing rows group x)) state
      → HasFrames timing rows (closed ++ closed_with timing rows group (x ∷ [])) (open_with timing rows group (x ∷ [])) state
  taken_one state has =
      subst (λ (l : List (List TimedSection)). HasFrames timing rows l (left_by x (joined_by timing rows group x)) state)
      (append_assoc closed (cut_off timing rows group x) (ended_by x (joined_by timing rows group x))
      ∙ ap (λ (l : List (List TimedSection)). closed ++ l) (sym (append-nil (cut_off timing rows group x ++ ended_by x (joined_by timing rows group x)))))
      has

  pub told_one : datagrams_of_frames rows (cut_off timing rows group x) ++ datagrams_of_frames rows (ended_by x (joined_by timing rows group x))
      ≡ datagrams_of_frames rows (closed_with timing rows group (x ∷ []))
  told_one =
      sym (told-append rows (cut_off timing rows group x) (ended_by x (joined_by timing rows group x)))
      ∙ ap (datagrams_of_frames rows) (sym (append-nil (cut_off timing rows group x ++ ended_by x (joined_by timing rows group x))))

-- the frames are the same where the table, the section seen last and the numbers of frames are
pub same_frames : (timing : Timing) (rows : ℕ) (closed : List (List TimedSection)) (group : List TimedSection) (old new : FramesState)
    → new.table ≡ old.table → new.seen ≡ old.seen → new.of_frames ≡ old.of_frames → HasFrames timing rows closed group old → HasFrames timing rows closed group new
same_frames timing rows closed group old new table seen numbers has = record {
  over = record {
    timing_is = ap (λ (s : Seen). s.timing) seen ∙ has.over.timing_is;
    rows_are = ap (λ (t : TableState). t.rows) table ∙ has.over.rows_are;
    rows_right = has.over.rows_right;
  };
  stands = subst (λ (t : TableState). Stands t (sections_of group)) (sym table) has.stands;
  seen_is = ap (λ (s : Seen). s.last) seen ∙ has.seen_is;
  numbers_are = λ few. numbers ∙ has.numbers_are few;
}
