-- A unit that is no section of a frame, and one that is.
use Rattle.std.proofs.Common.{◌≡◌, ℕ, ◌+◌, cond, List, [], ◌∷◌, ◌++◌, length, map, ap, sym, subst, append-nil, eqb}
use Rattle.std.specs.List.{count_by}
use Rattle.slice_spec.specs.Sections.{Timing}
use Rattle.fec_frame_spec.specs.Sections.{FrameSection, TimedSection, timed_section, frame_sections_in, timed_sections_in}
use Rattle.fec_frame_spec.specs.Delivered.{datagrams_of_frames}
use Rattle.service_reception.specs.Counting.{raised_by}
use Rattle.wire_spec.specs.Causes.{raised}
use Rattle.fec_reception.specs.declared.sections.Section.{Section}
use Rattle.fec_reception.specs.Reading.{section_in, timed_in}
use Rattle.fec_reception.specs.Frames.{is_unread}
use Rattle.fec_reception.specs.Steps.{cut_off, joined_by, ended_by, left_by, closed_with, open_with}
use Rattle.outlet_spec.specs.Going.{Going, DeliversAfter, GoesOn}
use Rattle.fec_reception.specs.Reception.{FramesState}
use Rattle.fec_reception.specs.Hearing.{HasFrames}
use Rattle.fec_reception.proofs.Joined.{taken_one, told_one}
use Rattle.outlet_spec.proofs.Going.{after_none, after_same, after_then}

module _ (rows : ℕ) (unit : List ℕ) where
  unread_by : (xs : List FrameSection) → frame_sections_in rows unit ≡ xs → count_by (is_unread rows) (unit ∷ []) ≡ 0 + cond (eqb (length xs) 0) 1 0
  unread_by xs is = ap (λ (l : List FrameSection). 0 + cond (eqb (length l) 0) 1 0) is

  pub unread_one : (before : ℕ) → [] ≡ frame_sections_in rows unit → raised before 1 ≡ raised_by before (count_by (is_unread rows) (unit ∷ []))
  unread_one before none = sym (ap (raised_by before) (unread_by [] (sym none)))

  pub unread_none : (before : ℕ) (s : FrameSection) → s ∷ [] ≡ frame_sections_in rows unit → before ≡ raised_by before (count_by (is_unread rows) (unit ∷ []))
  unread_none before s one = sym (ap (raised_by before) (unread_by (s ∷ []) (sym one)))

  pub timed_none : (moment : ℕ) → [] ≡ frame_sections_in rows unit → [] ≡ timed_sections_in rows moment unit
  timed_none moment none = ap (map (timed_section moment)) none

  pub timed_one : (moment : ℕ) (s : Section) → section_in s ∷ [] ≡ frame_sections_in rows unit → timed_in moment s ∷ [] ≡ timed_sections_in rows moment unit
  timed_one moment s one = ap (map (timed_section moment)) one

-- no section
module _ (timing : Timing) (rows : ℕ) (closed : List (List TimedSection)) (group sections : List TimedSection) where
  pub framed_none : (state : FramesState) → [] ≡ sections → HasFrames timing rows closed group state
      → HasFrames timing rows (closed ++ closed_with timing rows group sections) (open_with timing rows group sections) state
  framed_none state none has =
      subst (λ (l : List TimedSection). HasFrames timing rows (closed ++ closed_with timing rows group l) (open_with timing rows group l) state) none
      (subst (λ (l : List (List TimedSection)). HasFrames timing rows l group state) (sym (append-nil closed)) has)

  pub framed_one : (x : TimedSection) (state : FramesState) → x ∷ [] ≡ sections
      → HasFrames timing rows ((closed ++ cut_off timing rows group x) ++ ended_by x (joined_by timing rows group x)) (left_by x (joined_by timing rows group x)) state
      → HasFrames timing rows (closed ++ closed_with timing rows group sections) (open_with timing rows group sections) state
  framed_one x state one has =
      subst (λ (l : List TimedSection). HasFrames timing rows (closed ++ closed_with timing rows group l) (open_with timing rows group l) state) one
      (taken_one timing rows closed group x state has)

module _ {T A E : Type 0} (StandsFor : T → List (ℕ × List ℕ) → Type 0) (Refused : T → ℕ → List ℕ → Type 0) (services faults : T → ℕ) (service : ℕ)
    (timing : Timing) (rows : ℕ) (group sections : List TimedSection) where
  pub delivered_none : (one : Going T A E) → [] ≡ sections → DeliversAfter StandsFor Refused service (datagrams_of_frames rows (closed_with timing rows group sections)) one one
  delivered_none one none =
      subst (λ (l : List TimedSection). DeliversAfter StandsFor Refused service (datagrams_of_frames rows (closed_with timing rows group l)) one one) none
      (after_none StandsFor Refused services faults service one)

  pub delivered_one : (closed : List (List TimedSection)) (x : TimedSection) (a b c : Going T A E) → x ∷ [] ≡ sections
      → DeliversAfter StandsFor Refused service (datagrams_of_frames rows (cut_off timing rows group x)) a b
      → DeliversAfter StandsFor Refused service (datagrams_of_frames rows (ended_by x (joined_by timing rows group x))) b c → GoesOn services faults b c
      → DeliversAfter StandsFor Refused service (datagrams_of_frames rows (closed_with timing rows group sections)) a c
  delivered_one closed x a b c one first then goes =
      subst (λ (l : List TimedSection). DeliversAfter StandsFor Refused service (datagrams_of_frames rows (closed_with timing rows group l)) a c) one
      (after_same StandsFor Refused services faults service _ _ a c (told_one timing rows closed group x)
      (after_then StandsFor Refused services faults service (datagrams_of_frames rows (cut_off timing rows group x)) (datagrams_of_frames rows (ended_by x (joined_by timing rows group x)))
      a b c first then goes))
