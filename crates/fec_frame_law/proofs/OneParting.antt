-- There is one way to separate sections into received frames.
use Rattle.std.proofs.Common.{◌≡◌, ℕ, suc, ◌+◌, ◌<◌, ◌≤◌, true, false, List, [], ◌∷◌, ◌++◌, length, take, refl, ap, ap₂, sym, ◌∙◌, subst, arith, append_assoc}
use Rattle.std.proofs.lemmas.List.{take_at, get_or_at, length-append}
use Rattle.fec_frame_spec.specs.Sections.{TimedSection}
use Rattle.slice_spec.specs.Sections.{Timing}
use Rattle.fec_frame_spec.specs.Groups.{is_cut, section_at, frame_at, no_section, AreReceivedFrames, received_frames}
use Rattle.fec_frame_law.specs.Kept.{accepted_frames}
use Rattle.fec_frame_law.proofs.Groups.{AreUncut, IsCutOff, AreParted, parted_received}

module _ (timing : Timing) (rows : ℕ) where
  uncut_by_places : (rest group : List TimedSection)
      → ((i : ℕ) → length group ≤ i → i < length (group ++ rest) → is_cut timing rows (take i (group ++ rest)) (section_at (group ++ rest) i) ≡ false) → AreUncut timing rows group rest
  uncut_by_places [] group uncut = tt
  uncut_by_places (x ∷ rest) group uncut = (
    ap₂ (λ (g : List TimedSection) (t : TimedSection). is_cut timing rows g t) (sym (take_at group (x ∷ rest) (length group) refl)) (sym (get_or_at group x rest no_section (length group) refl))
        ∙ uncut (length group) (omega arith) (omega (arith, length-append group (x ∷ rest))),
    uncut_by_places rest (group ++ x ∷ [])
        (subst (λ (l : List TimedSection). (i : ℕ) → length (group ++ x ∷ []) ≤ i → i < length l → is_cut timing rows (take i l) (section_at l i) ≡ false)
        (sym (append_assoc group (x ∷ []) rest))
        (λ i from below. uncut i (omega (arith, from, length-append group (x ∷ []))) below)),
  )

  parted : (frames : List (List TimedSection)) → ((n : ℕ) → n < length frames → 0 < length (frame_at frames n))
      → ((n i : ℕ) → n < length frames → 0 < i → i < length (frame_at frames n) → is_cut timing rows (take i (frame_at frames n)) (section_at (frame_at frames n) i) ≡ false)
      → ((n : ℕ) → n + 1 < length frames → is_cut timing rows (frame_at frames n) (section_at (frame_at frames (n + 1)) 0) ≡ true)
      → AreParted timing rows frames × (accepted_frames frames ≡ frames)
  parted [] some within between = (tt, refl)
  parted ([] ∷ frames) some within between = absurd (omega (arith, some 0 (omega arith)))
  parted ((x ∷ sections) ∷ frames) some within between =
      let rest = parted frames (λ n low. some (suc n) (omega (arith, low))) (λ n i low. within (suc n) i (omega (arith, low)))
      (λ n low. let e : suc (n + 1) ≡ suc n + 1 = omega arith in
      ap (λ (k : ℕ). is_cut timing rows (frame_at frames n) (section_at (frame_at ((x ∷ sections) ∷ frames) k) 0)) e ∙ between (suc n) (omega (arith, low))) in (
        (
          uncut_by_places sections (x ∷ []) (λ i from below. within 0 i (omega arith) (omega (arith, from)) below),
          cut_off frames (λ n low. some (suc n) (omega (arith, low))) (λ low. between 0 (omega (arith, low))),
          rest.0,
        ),
        ap (λ (l : List (List TimedSection)). (x ∷ sections) ∷ l) rest.1,
      )
    where
      cut_off : (others : List (List TimedSection)) → ((n : ℕ) → n < length others → 0 < length (frame_at others n))
          → (0 < length others → is_cut timing rows (x ∷ sections) (section_at (frame_at others 0) 0) ≡ true) → IsCutOff timing rows (x ∷ sections) others
      cut_off [] filled cut = tt
      cut_off ([] ∷ others) filled cut = absurd (omega (arith, filled 0 (omega arith)))
      cut_off ((y ∷ more) ∷ others) filled cut = cut (omega arith)

  -- each way to separate them is the one that goes section by section
  pub one_parting : (sections : List TimedSection) (frames : List (List TimedSection)) → AreReceivedFrames timing rows sections frames → received_frames timing rows sections ≡ frames
  one_parting sections frames are =
      let parts = parted frames are.some are.within are.between in
      ap (received_frames timing rows) are.whole ∙ parted_received timing rows frames parts.0 ∙ parts.1
