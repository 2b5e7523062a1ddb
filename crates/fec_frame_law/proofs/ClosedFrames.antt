-- Which received frames are closed, and that they stay so when a section comes.
use Rattle.std.proofs.Common.{◌≡◌, ℕ, Bool, true, false, cond, List, [], ◌∷◌, ◌++◌, refl, ap, sym, ◌∙◌}
use Rattle.std.specs.List.{list_any}
use Rattle.std.proofs.lemmas.Bool.{or_left, or_right}
use Rattle.slice_spec.specs.Sections.{Timing, is_parted}
use Rattle.fec_frame_spec.specs.Sections.{TimedSection, time_of, sections_of, ends_frame}
use Rattle.fec_frame_spec.specs.Groups.{is_cut, is_cut_by_kind, is_cut_by_table, last_section, frames_from, received_frames, closed_frames}

-- when no more sections can come
pub closed_ended : (frames : List (List TimedSection)) → closed_frames true frames ≡ frames
closed_ended [] = refl
closed_ended (group ∷ []) = refl
closed_ended (group ∷ next ∷ others) = ap (λ (l : List (List TimedSection)). group ∷ l) (closed_ended (next ∷ others))

-- until then
before_last : (group : List TimedSection) (b : Bool) (all others : List (List TimedSection)) → group ∷ cond b all others ≡ cond b (group ∷ all) (group ∷ others)
before_last group true all others = refl
before_last group false all others = refl

pub closed_open : (frames : List (List TimedSection)) (last : List TimedSection)
    → closed_frames false (frames ++ last ∷ []) ≡ cond (list_any ends_frame (sections_of last)) (frames ++ last ∷ []) frames
closed_open [] last = refl
closed_open (group ∷ []) last = before_last group (list_any ends_frame (sections_of last)) (last ∷ []) []
closed_open (group ∷ next ∷ others) last =
    ap (λ (l : List (List TimedSection)). group ∷ l) (closed_open (next ∷ others) last)
    ∙ before_last group (list_any ends_frame (sections_of last)) (next ∷ others ++ last ∷ []) (next ∷ others)

-- With a section more.

abbrev AreMore : List (List TimedSection) → List (List TimedSection) → Type 0
AreMore frames more = (others : List (List TimedSection)) × (more ≡ frames ++ others)

module _ (timing : Timing) (rows : ℕ) (x : TimedSection) where
  -- there is a frame under way
  closed_behind : (group : List TimedSection) (s : TimedSection) (begun sections : List TimedSection)
      → closed_frames false (group ∷ frames_from timing rows (s ∷ begun) sections) ≡ group ∷ closed_frames false (frames_from timing rows (s ∷ begun) sections)
  closed_behind group s begun [] = refl
  closed_behind group s begun (y ∷ sections) = by_cut (is_cut timing rows (s ∷ begun) y) (closed_behind group s (begun ++ y ∷ []) sections)
    where
      by_cut : (b : Bool) → closed_frames false (group ∷ frames_from timing rows (s ∷ begun ++ y ∷ []) sections) ≡ group ∷ closed_frames false (frames_from timing rows (s ∷ begun ++ y ∷ []) sections)
          → closed_frames false (group ∷ cond b ((s ∷ begun) ∷ frames_from timing rows (y ∷ []) sections) (frames_from timing rows (s ∷ begun ++ y ∷ []) sections))
          ≡ group ∷ closed_frames false (cond b ((s ∷ begun) ∷ frames_from timing rows (y ∷ []) sections) (frames_from timing rows (s ∷ begun ++ y ∷ []) sections))
      by_cut true later = refl
      by_cut false later = later

  ended_cut : (s : TimedSection) (begun : List TimedSection) → list_any ends_frame (sections_of (s ∷ begun)) ≡ true → is_cut timing rows (s ∷ begun) x ≡ true
  ended_cut s begun ended =
      or_right (is_parted timing (time_of (last_section s begun)) (time_of x)) (is_cut_by_table rows (sections_of (s ∷ begun)) x.section)
      (or_left (list_any ends_frame (sections_of (s ∷ begun))) (is_cut_by_kind rows (sections_of (s ∷ begun)) x.section) ended)

  more_from : (s : TimedSection) (begun sections : List TimedSection)
      → AreMore (closed_frames false (frames_from timing rows (s ∷ begun) sections)) (closed_frames false (frames_from timing rows (s ∷ begun) (sections ++ x ∷ [])))
  more_from s begun [] = by_end (list_any ends_frame (sections_of (s ∷ begun))) refl
    where
      cut : list_any ends_frame (sections_of (s ∷ begun)) ≡ true
          → closed_frames false (cond (is_cut timing rows (s ∷ begun) x) ((s ∷ begun) ∷ (x ∷ []) ∷ []) ((s ∷ begun ++ x ∷ []) ∷ [])) ≡ (s ∷ begun) ∷ closed_frames false ((x ∷ []) ∷ [])
      cut ended = ap (λ (b : Bool). closed_frames false (cond b ((s ∷ begun) ∷ (x ∷ []) ∷ []) ((s ∷ begun ++ x ∷ []) ∷ []))) (ended_cut s begun ended)

      by_end : (b : Bool) → list_any ends_frame (sections_of (s ∷ begun)) ≡ b
          → AreMore (cond b ((s ∷ begun) ∷ []) []) (closed_frames false (cond (is_cut timing rows (s ∷ begun) x) ((s ∷ begun) ∷ (x ∷ []) ∷ []) ((s ∷ begun ++ x ∷ []) ∷ [])))
      by_end true ended = (closed_frames false ((x ∷ []) ∷ []), cut ended)
      by_end false unended = (closed_frames false (cond (is_cut timing rows (s ∷ begun) x) ((s ∷ begun) ∷ (x ∷ []) ∷ []) ((s ∷ begun ++ x ∷ []) ∷ [])), refl)
  more_from s begun (y ∷ sections) = by_cut (is_cut timing rows (s ∷ begun) y) (more_from y [] sections) (more_from s (begun ++ y ∷ []) sections)
    where
      next : List TimedSection → List TimedSection → List (List TimedSection)
      next group rest = frames_from timing rows group rest

      by_cut : (b : Bool)
          → AreMore (closed_frames false (next (y ∷ []) sections)) (closed_frames false (next (y ∷ []) (sections ++ x ∷ [])))
          → AreMore (closed_frames false (next (s ∷ begun ++ y ∷ []) sections)) (closed_frames false (next (s ∷ begun ++ y ∷ []) (sections ++ x ∷ [])))
          → AreMore (closed_frames false (cond b ((s ∷ begun) ∷ next (y ∷ []) sections) (next (s ∷ begun ++ y ∷ []) sections)))
          (closed_frames false (cond b ((s ∷ begun) ∷ next (y ∷ []) (sections ++ x ∷ [])) (next (s ∷ begun ++ y ∷ []) (sections ++ x ∷ []))))
      by_cut true more later = (
        more.0,
        closed_behind (s ∷ begun) y [] (sections ++ x ∷ [])
            ∙ ap (λ (l : List (List TimedSection)). (s ∷ begun) ∷ l) more.1
            ∙ ap (λ (l : List (List TimedSection)). l ++ more.0) (sym (closed_behind (s ∷ begun) y [] sections)),
      )
      by_cut false more later = later

  pub closed_more : (sections : List TimedSection)
      → AreMore (closed_frames false (received_frames timing rows sections)) (closed_frames false (received_frames timing rows (sections ++ x ∷ [])))
  closed_more [] = (closed_frames false ((x ∷ []) ∷ []), refl)
  closed_more (s ∷ sections) = more_from s [] sections
