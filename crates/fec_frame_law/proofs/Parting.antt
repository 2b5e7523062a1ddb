-- Sections are separated into received frames in one way.
use Rattle.std.proofs.Common.{◌≡◌, ◌⊎◌, inl, inr, ℕ, zero, suc, ◌+◌, ◌<◌, ◌≤◌, Bool, true, false, cond, List, [], ◌∷◌, ◌++◌, length, take, flat_map, refl, ap, ap₂, sym, ◌∙◌, arith, append_assoc}
use Rattle.std.proofs.lemmas.Bool.{cases_lt}
use Rattle.std.proofs.lemmas.List.{take-append-le, take_at, get_or_append_left, get_or_at, length-append}
use Rattle.fec_frame_spec.specs.Sections.{TimedSection}
use Rattle.slice_spec.specs.Sections.{Timing}
use Rattle.fec_frame_spec.specs.Groups.{is_cut, section_at, frame_at, no_section, AreReceivedFrames, frames_from, received_frames}

module _ (timing : Timing) (rows : ℕ) where
  -- no section of a group is cut from those before it
  abbrev pub IsWhole : List TimedSection → Type 0
  IsWhole group = (i : ℕ) → 0 < i → i < length group → is_cut timing rows (take i group) (section_at group i) ≡ false

  -- a group and one section more
  whole_more : (group : List TimedSection) (x : TimedSection) → IsWhole group → is_cut timing rows group x ≡ false → IsWhole (group ++ x ∷ [])
  whole_more group x whole uncut i some within = by_order (cases_lt i (length group))
    where
      by_order : (i < length group) ⊎ (length group ≤ i) → is_cut timing rows (take i (group ++ x ∷ [])) (section_at (group ++ x ∷ []) i) ≡ false
      by_order (inl inside) =
          ap₂ (λ (g : List TimedSection) (t : TimedSection). is_cut timing rows g t) (take-append-le i group (x ∷ []) (omega (arith, inside))) (get_or_append_left group (x ∷ []) no_section i inside)
          ∙ whole i some inside
      by_order (inr over) =
          let e : length group ≡ i = omega (arith, over, within, length-append group (x ∷ [])) in
          ap₂ (λ (g : List TimedSection) (t : TimedSection). is_cut timing rows g t) (take_at group (x ∷ []) i e) (get_or_at group x [] no_section i e)
          ∙ uncut

  -- the frames that begin with a group, and a front of them that is not yet over
  record IsParting (group sections : List TimedSection) (frames : List (List TimedSection)) : Type 0 where
    pub whole : group ++ sections ≡ flat_map (λ (frame : List TimedSection). frame) frames
    pub any : 0 < length frames
    pub begins : (i : ℕ) → i < length group → section_at (frame_at frames 0) i ≡ section_at group i
    pub some : (n : ℕ) → n < length frames → 0 < length (frame_at frames n)
    pub within : (n : ℕ) → n < length frames → IsWhole (frame_at frames n)
    pub between : (n : ℕ) → n + 1 < length frames → is_cut timing rows (frame_at frames n) (section_at (frame_at frames (n + 1)) 0) ≡ true

  parting : (sections group : List TimedSection) → 0 < length group → IsWhole group → IsParting group sections (frames_from timing rows group sections)
  parting [] group some whole = record {
    whole = refl;
    any = omega arith;
    begins = λ i inside. refl;
    some = λ n low. one n low;
    within = λ n low. one_whole n low;
    between = λ n low. absurd (omega (arith, low));
  }
    where
      one : (n : ℕ) → n < 1 → 0 < length (frame_at (group ∷ []) n)
      one zero low = some
      one (suc n) low = absurd (omega (arith, low))

      one_whole : (n : ℕ) → n < 1 → IsWhole (frame_at (group ∷ []) n)
      one_whole zero low = whole
      one_whole (suc n) low = absurd (omega (arith, low))
  parting (x ∷ sections) group some whole =
      by_cut (is_cut timing rows group x) refl (parting sections (x ∷ []) (omega arith) (λ i some_i low. absurd (omega (arith, some_i, low)))) (parting sections (group ++ x ∷ []))
    where
      by_cut : (b : Bool) → is_cut timing rows group x ≡ b → IsParting (x ∷ []) sections (frames_from timing rows (x ∷ []) sections)
          → (0 < length (group ++ x ∷ []) → IsWhole (group ++ x ∷ []) → IsParting (group ++ x ∷ []) sections (frames_from timing rows (group ++ x ∷ []) sections))
          → IsParting group (x ∷ sections)
          (cond b (group ∷ frames_from timing rows (x ∷ []) sections) (frames_from timing rows (group ++ x ∷ []) sections))
      by_cut false uncut anew later =
          let rest = later (omega (arith, length-append group (x ∷ []))) (whole_more group x whole uncut) in
          record {
            whole = sym (append_assoc group (x ∷ []) sections) ∙ rest.whole;
            any = rest.any;
            begins = λ i inside. rest.begins i (omega (arith, inside, length-append group (x ∷ []))) ∙ get_or_append_left group (x ∷ []) no_section i inside;
            some = rest.some;
            within = rest.within;
            between = rest.between;
          }
      by_cut true cut anew later = record {
        whole = ap (λ (l : List TimedSection). group ++ l) anew.whole;
        any = omega arith;
        begins = λ i inside. refl;
        some = some_all;
        within = within_all;
        between = between_all;
      }
        where
          some_all : (n : ℕ) → n < suc (length (frames_from timing rows (x ∷ []) sections)) → 0 < length (frame_at (group ∷ frames_from timing rows (x ∷ []) sections) n)
          some_all zero low = some
          some_all (suc n) low = anew.some n (omega (arith, low))

          within_all : (n : ℕ) → n < suc (length (frames_from timing rows (x ∷ []) sections)) → IsWhole (frame_at (group ∷ frames_from timing rows (x ∷ []) sections) n)
          within_all zero low = whole
          within_all (suc n) low = anew.within n (omega (arith, low))

          between_all : (n : ℕ) → n + 1 < suc (length (frames_from timing rows (x ∷ []) sections))
              → is_cut timing rows (frame_at (group ∷ frames_from timing rows (x ∷ []) sections) n) (section_at (frame_at (group ∷ frames_from timing rows (x ∷ []) sections) (n + 1)) 0) ≡ true
          between_all zero low = ap (λ (t : TimedSection). is_cut timing rows group t) (anew.begins 0 (omega arith)) ∙ cut
          between_all (suc n) low =
              let e : suc n + 1 ≡ suc (n + 1) = omega arith in
              ap (λ (k : ℕ). is_cut timing rows (frame_at (frames_from timing rows (x ∷ []) sections) n) (section_at (frame_at (group ∷ frames_from timing rows (x ∷ []) sections) k) 0)) e
              ∙ anew.between n (omega (arith, low))

  -- the sections are separated into their received frames
  pub received_are : (sections : List TimedSection) → AreReceivedFrames timing rows sections (received_frames timing rows sections)
  received_are [] = record {
    whole = refl;
    some = λ n low. absurd (omega (arith, low));
    within = λ n i low. absurd (omega (arith, low));
    between = λ n low. absurd (omega (arith, low));
  }
  received_are (x ∷ sections) =
      let all = parting sections (x ∷ []) (omega arith) (λ i some low. absurd (omega (arith, some, low))) in
      record { whole = all.whole; some = all.some; within = λ n i low. all.within n low i; between = all.between }
