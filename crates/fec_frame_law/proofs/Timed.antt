-- Accepted sections that have the moments of their units, but for two constants, are timed as those that were sent.
use Rattle.std.proofs.Common.{◌≡◌, ◌⊎◌, inl, inr, ℕ, zero, suc, ◌+◌, ◌-◌, ◌<◌, ◌≤◌, List, [], ◌∷◌, length, get_or, map, refl, ap, sym, ◌∙◌, subst, arith}
use Rattle.std.proofs.lemmas.List.{get_or_append_left, get_or-append-add}
use Rattle.ts_spec.specs.Packetized.{unit_at}
use Rattle.ts_spec.specs.Reassembly.{PlacedUnit}
use Rattle.channel_law.proofs.Member.{Member, member_at, contains_member}
use Rattle.slice_spec.specs.Sections.{sliced}
use Rattle.slice_spec.specs.Frames.{IsOf}
use Rattle.fec_frame_spec.specs.Sections.{FrameSection, TimedSection, time_of, times_of, frame_sections_in, timed_section}
use Rattle.fec_frame_spec.specs.Groups.{all_sections, section_at, frame_at, no_section}
use Rattle.fec_frame_spec.specs.Frame.{FrameFields}
use Rattle.fec_frame_spec.specs.Carried.{AreFramesOf}
use Rattle.fec_frame_law.specs.Kept.{sections_before, frame_start, IsReceivedOf, AreTimed}
use Rattle.fec_frame_law.proofs.Numbers.{start_behind, start_first, start_next}
use Rattle.fec_frame_law.proofs.Units.{one_section, section_is}
use Rattle.fec_frame_law.proofs.Between.{is_of}

-- a section with a number of a frame is one of it
in_frame : (frames : List (List TimedSection)) (i k : ℕ) → i < length frames → frame_start frames i ≤ k → k < frame_start frames (i + 1)
    → Member (frame_at frames i) (section_at (all_sections frames) k)
in_frame [] i k low from below = absurd (omega (arith, low))
in_frame (frame ∷ frames) zero k low from below =
    let inside : k < length frame = omega (arith, below, start_first frame frames) in
    subst (Member frame) (sym (get_or_append_left frame (all_sections frames) no_section k inside)) (member_at frame k no_section inside)
in_frame (frame ∷ frames) (suc i) k low from below =
    let e : length frame + (k - length frame) ≡ k = omega (arith, from, start_behind frame frames i) in
    subst (Member (frame_at frames i)) (sym (get_or-append-add frame (all_sections frames) (k - length frame) no_section) ∙ ap (section_at (all_sections (frame ∷ frames))) e)
    (in_frame frames i (k - length frame) (omega (arith, low)) (omega (arith, from, start_behind frame frames i)) (omega (arith, below, start_next frame frames i)))

module _ (ten rows first : ℕ) (units : List (List ℕ)) (moments : ℕ → ℕ) (fields : List FrameFields) (frames : List (List TimedSection))
    (are : AreFramesOf (sliced ten) rows first units moments fields frames) (is_sent : PlacedUnit → ℕ → Type 0)
    (bytes : (a : PlacedUnit) (n : ℕ) → is_sent a n → unit_at units n ≡ a.unit) (ahead behind : ℕ)
    (each : (a : PlacedUnit) (n : ℕ) → is_sent a n → a.moment + behind ≡ moments n + ahead) where
  -- an accepted section and its moment in what was sent
  record IsAt (i : ℕ) (s : TimedSection) : Type 0 where
    pub moment : ℕ
    pub there : IsOf (map times_of frames) i (time_of (timed_section moment s.section))
    pub same : s.moment + behind ≡ moment + ahead

  is_at : (i : ℕ) (s : TimedSection) → IsReceivedOf rows units frames is_sent i s → IsAt i s
  is_at i s is = by_one (frame_sections_in rows is.accepted.unit) refl (one_section rows is.accepted.unit)
    where
      n : ℕ
      n = is.number

      by_one : (xs : List FrameSection) → frame_sections_in rows is.accepted.unit ≡ xs → (xs ≡ []) ⊎ ((t : FrameSection) × (xs ≡ t ∷ [])) → IsAt i s
      by_one xs reads (inl none) =
          absurd (omega (
            arith,
            ap (λ (l : List TimedSection). length l) is.reads,
            ap (λ (l : List FrameSection). length (map (timed_section is.accepted.moment) l)) (reads ∙ none),
          ))
      by_one xs reads (inr one) =
          let here : timed_section is.accepted.moment one.0 ≡ s
          = ap (λ (l : List TimedSection). get_or l 0 no_section) (ap (map (timed_section is.accepted.moment)) (sym (reads ∙ one.1)) ∙ is.reads) in
          let section : one.0 ≡ s.section = ap (λ (t : TimedSection). t.section) here in
          let reads_s : frame_sections_in rows (unit_at units n) ≡ s.section ∷ []
          = ap (frame_sections_in rows) (bytes is.accepted n is.sent_unit) ∙ reads ∙ one.1 ∙ ap (λ (t : FrameSection). t ∷ []) section in
          let at : section_at (all_sections frames) (sections_before rows units n) ≡ timed_section (moments n) s.section
          = ap (λ (l : List TimedSection). section_at l (sections_before rows units n)) (sym are.read) ∙ section_is rows units moments n s.section is.of_frame.unit reads_s in
          let there : Member (frame_at frames i) (timed_section (moments n) s.section)
          = subst (Member (frame_at frames i)) at (in_frame frames i (sections_before rows units n) is.of_frame.frame is.of_frame.from is.of_frame.below) in
          record {
            moment = moments n;
            there = contains_member (get_or (map times_of frames) i []) (time_of (timed_section (moments n) s.section)) (is_of frames i (timed_section (moments n) s.section) there);
            same = omega (arith, each is.accepted n is.sent_unit, ap (λ (t : TimedSection). t.moment) here);
          }

  pub timed_by_moments : AreTimed ten rows units frames is_sent
  timed_by_moments = record {
    within = λ i a b is_a is_b some.
        let x = is_at i a is_a in
        let y = is_at i b is_b in
        omega (arith, are.timed.within i (time_of (timed_section x.moment a.section)) (time_of (timed_section y.moment b.section)) x.there y.there some, x.same, y.same);
    after = λ i j a b less is_a is_b some.
        let x = is_at i a is_a in
        let y = is_at j b is_b in
        omega (arith, are.timed.after i j (time_of (timed_section x.moment a.section)) (time_of (timed_section y.moment b.section)) less x.there y.there some, x.same, y.same);
  }
