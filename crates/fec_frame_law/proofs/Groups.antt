-- Sections that are separated rightly make the frames that they came from.
use Rattle.std.proofs.Common.{◌≡◌, ℕ, true, false, List, [], ◌∷◌, ◌++◌, refl, ap, sym, ◌∙◌, append-nil, append_assoc}
use Rattle.std.proofs.lemmas.Bool.{cond-true, cond-false}
use Rattle.fec_frame_spec.specs.Sections.{TimedSection}
use Rattle.slice_spec.specs.Sections.{Timing}
use Rattle.fec_frame_spec.specs.Groups.{all_sections, is_cut, frames_from, received_frames}
use Rattle.fec_frame_law.specs.Kept.{accepted_frames}

-- none of the sections is cut from those before it
abbrev pub AreUncut : Timing → ℕ → List TimedSection → List TimedSection → Type 0
AreUncut timing rows group [] = Unit {0}
AreUncut timing rows group (x ∷ sections) = (is_cut timing rows group x ≡ false) × AreUncut timing rows (group ++ x ∷ []) sections

-- the next frame that has a section is cut off from these
abbrev pub IsCutOff : Timing → ℕ → List TimedSection → List (List TimedSection) → Type 0
IsCutOff timing rows group [] = Unit {0}
IsCutOff timing rows group ([] ∷ kept) = IsCutOff timing rows group kept
IsCutOff timing rows group ((x ∷ sections) ∷ kept) = is_cut timing rows group x ≡ true

-- each frame is uncut, and cut off from the next
abbrev pub AreParted : Timing → ℕ → List (List TimedSection) → Type 0
AreParted timing rows [] = Unit {0}
AreParted timing rows ([] ∷ kept) = AreParted timing rows kept
AreParted timing rows ((x ∷ sections) ∷ kept) = AreUncut timing rows (x ∷ []) sections × IsCutOff timing rows (x ∷ sections) kept × AreParted timing rows kept

-- uncut sections stay together
uncut_together : (timing : Timing) (rows : ℕ) (group front rest : List TimedSection) → AreUncut timing rows group front
    → frames_from timing rows group (front ++ rest) ≡ frames_from timing rows (group ++ front) rest
uncut_together timing rows group [] rest uncut = ap (λ (g : List TimedSection). frames_from timing rows g rest) (sym (append-nil group))
uncut_together timing rows group (x ∷ front) rest uncut =
    cond-false (is_cut timing rows group x) (group ∷ frames_from timing rows (x ∷ []) (front ++ rest)) (frames_from timing rows (group ++ x ∷ []) (front ++ rest)) uncut.0
    ∙ uncut_together timing rows (group ++ x ∷ []) front rest uncut.1
    ∙ ap (λ (g : List TimedSection). frames_from timing rows g rest) (append_assoc group (x ∷ []) front)

parted_behind : (timing : Timing) (rows : ℕ) (group : List TimedSection) (kept : List (List TimedSection)) → IsCutOff timing rows group kept → AreParted timing rows kept
    → frames_from timing rows group (all_sections kept) ≡ group ∷ accepted_frames kept
parted_behind timing rows group [] off parted = refl
parted_behind timing rows group ([] ∷ kept) off parted = parted_behind timing rows group kept off parted
parted_behind timing rows group ((x ∷ sections) ∷ kept) off parted =
    cond-true (is_cut timing rows group x) (group ∷ frames_from timing rows (x ∷ []) (sections ++ all_sections kept))
    (frames_from timing rows (group ++ x ∷ []) (sections ++ all_sections kept)) off
    ∙ ap (λ (l : List (List TimedSection)). group ∷ l)
    (uncut_together timing rows (x ∷ []) sections (all_sections kept) parted.0 ∙ parted_behind timing rows (x ∷ sections) kept parted.1 parted.2)

-- separated frames are received as they were sent, without those of which nothing came
pub parted_received : (timing : Timing) (rows : ℕ) (kept : List (List TimedSection)) → AreParted timing rows kept
    → received_frames timing rows (all_sections kept) ≡ accepted_frames kept
parted_received timing rows [] parted = refl
parted_received timing rows ([] ∷ kept) parted = parted_received timing rows kept parted
parted_received timing rows ((x ∷ sections) ∷ kept) parted =
    uncut_together timing rows (x ∷ []) sections (all_sections kept) parted.0 ∙ parted_behind timing rows (x ∷ sections) kept parted.1 parted.2
