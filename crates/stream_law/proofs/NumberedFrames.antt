-- Frames without time slicing: delta_t of their sections is the number of the frame, and their units carry the datagrams.
use Rattle.std.proofs.Common.{◌≡◌, inl, inr, ℕ, ◌+◌, ◌%◌, List, [], ◌∷◌, ◌++◌, length, map, refl, sym, ap, ◌∙◌, arith}
use Rattle.std.specs.Prelude.{flat_map}
use Rattle.std.specs.List.{range_with_len}
use Rattle.std.proofs.lemmas.List.{map-append}
use Rattle.std.proofs.lemmas.List.Folds.{flat_map-map}
use Rattle.channel_law.proofs.Member.{Member, member_contains}
use Rattle.slice_spec.specs.Sections.{indexed, SectionTime}
use Rattle.fec_frame_spec.specs.Sections.{FrameSection, times_of}
use Rattle.fec_frame_spec.specs.Frame.{FrameFields, AreSentFrames}
use Rattle.fec_frame_spec.specs.Sender.{frame_of, sections_to_send, section_unit}
use Rattle.fec_frame_spec.specs.Carried.{CarriesInFrames, sections_of_units}
use Rattle.fec_sent_law.proofs.Carried.{timed_from, all_timed}
use Rattle.stream_spec.specs.Units.{mac_for, units_of_frame, units_of_frames}
use Rattle.stream_law.proofs.Frames.{AreFrames}
use Rattle.stream_law.proofs.BurstTimes.{HaveDeltas, deltas_are}
use Rattle.stream_law.proofs.SlicedFrames.{AllRead, frames_read, AreOfFrames}
use Rattle.stream_law.proofs.TimesOver.{AreNumbered, index_is}

same_delta : (moments : ℕ → ℕ) (delta n i : ℕ) (sections : List FrameSection) → HaveDeltas (λ j. delta) i sections → (x : SectionTime)
    → Member (times_of (timed_from moments n sections)) x → x.delta ≡ delta
same_delta moments delta n i [] deltas x there = absurd there
same_delta moments delta n i (s ∷ sections) deltas x (inl same) = ap (λ (t : SectionTime). t.delta) (sym same) ∙ deltas.0
same_delta moments delta n i (s ∷ sections) deltas x (inr there) = same_delta moments delta (n + 1) (i + 1) sections deltas.1 x there

module _ (rows columns : ℕ) (mac : List ℕ) where
  -- the sections of frames, the first of which has this number
  abbrev pub sections_by_number : ℕ → List (List (List ℕ)) → List (List FrameSection)
  sections_by_number number [] = []
  sections_by_number number (frame ∷ frames) =
      sections_to_send rows (frame_of rows columns frame) (mac_for mac) (λ i. number % 4096) ∷ sections_by_number (number + 1) frames

  units_are : (number : ℕ) (frames : List (List (List ℕ)))
      → units_of_frames rows columns mac number frames ≡ map section_unit (flat_map (λ (f : List FrameSection). f) (sections_by_number number frames))
  units_are number [] = refl
  units_are number (frame ∷ frames) =
      ap (λ (l : List (List ℕ)). units_of_frame rows columns mac number frame ++ l) (units_are (number + 1) frames)
      ∙ sym (map-append section_unit (sections_to_send rows (frame_of rows columns frame) (mac_for mac) (λ i. number % 4096))
      (flat_map (λ (f : List FrameSection). f) (sections_by_number (number + 1) frames)))

  are_of : (number : ℕ) (frames : List (List (List ℕ))) → AreOfFrames rows columns mac frames (sections_by_number number frames)
  are_of number [] = tt
  are_of number (frame ∷ frames) = (record { delta = λ i. number % 4096; below = λ i. omega arith; are = refl }, are_of (number + 1) frames)

  -- their times
  pub numbered_are : (moments : ℕ → ℕ) (number n : ℕ) (frames : List (List (List ℕ)))
      → AreNumbered (range_with_len number (length frames)) (map times_of (all_timed moments n (sections_by_number number frames)))
  numbered_are moments number n [] = tt
  numbered_are moments number n (frame ∷ frames) = (
    λ x is. same_delta moments (number % 4096) n 0 (sections_to_send rows (frame_of rows columns frame) (mac_for mac) (λ i. number % 4096))
        (deltas_are rows (frame_of rows columns frame) (mac_for mac) (λ i. number % 4096)) x
        (member_contains (times_of (timed_from moments n (sections_to_send rows (frame_of rows columns frame) (mac_for mac) (λ i. number % 4096)))) x is),
    numbered_are moments (number + 1) (n + length (sections_to_send rows (frame_of rows columns frame) (mac_for mac) (λ i. number % 4096))) frames,
  )

  -- with the laws of frames
  module _ (reads : (fs : List (List (List ℕ))) (sections : List (List FrameSection)) → AreFrames rows fs → AreOfFrames rows columns mac fs sections
      → AllRead rows (flat_map (λ (f : List FrameSection). f) sections))
      (are_sent : (moments : ℕ → ℕ) (n : ℕ) (fs : List (List (List ℕ))) (sections : List (List FrameSection)) → AreFrames rows fs → AreOfFrames rows columns mac fs sections
      → AreSentFrames rows (map (frame_of rows columns) fs) (all_timed moments n sections)) where
    pub numbered_carry : (first : ℕ) (frames : List (List (List ℕ))) (moments : ℕ → ℕ) → AreFrames rows frames
        → (c : CarriesInFrames indexed rows first (units_of_frames rows columns mac first frames) moments (flat_map (λ (frame : List (List ℕ)). frame) frames))
        × (all_timed moments 0 (sections_by_number first frames) ≡ c.sections)
    numbered_carry first frames moments each = (
      record {
        frames = map (frame_of rows columns) frames;
        sections = all_timed moments 0 (sections_by_number first frames);
        are = record {
          sent = are_sent moments 0 frames (sections_by_number first frames) each (are_of first frames);
          timed = record { index = index_is first (length frames) (map times_of (all_timed moments 0 (sections_by_number first frames))) (numbered_are moments first 0 frames) };
          read = ap (λ (us : List (List ℕ)). sections_of_units rows us moments) (units_are first frames)
              ∙ frames_read rows moments (sections_by_number first frames) (reads frames (sections_by_number first frames) each (are_of first frames));
        };
        datagrams_are = sym (flat_map-map (λ (frame : FrameFields). frame.datagrams) (frame_of rows columns) frames);
      },
      refl,
    )
