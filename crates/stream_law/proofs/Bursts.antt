-- The bursts of a service: how many packets each has.
use Rattle.std.proofs.Common.{◌≡◌, ℕ, zero, suc, ◌+◌, true, List, [], ◌∷◌, ◌++◌, length, map, sum, refl, sym, ap, ap₂, subst, ◌∙◌}
use Rattle.std.specs.List.{range_with_len}
use Rattle.std.proofs.lemmas.List.{map-append}
use Rattle.section_spec.specs.Section.{section_form}
use Rattle.fec_frame_spec.specs.Sections.{data_section, parity_section}
use Rattle.fec_frame_spec.specs.Frame.{FrameFields, datagram_at}
use Rattle.fec_frame_spec.specs.Sender.{frame_of, section_of_datagram, section_of_column, section_unit}
use Rattle.plan_spec.specs.Plan.{WindowFields}
use Rattle.stream_spec.specs.Units.{FrameSchedule, mac_for, units_with_delta, sized_units, burst_size, units_by_burst, packetized_apart}
use Rattle.stream_law.proofs.Framed.{data_size, column_size}
use Rattle.stream_law.proofs.Sized.{HaveLengths, have_both, counted}
use Rattle.stream_law.proofs.Apart.{size_of, length-apart}

module _ (rows columns : ℕ) where
  -- neither delta_t nor an address changes the length of a section
  module _ (frame : FrameFields) (mac other : List ℕ → List ℕ) (delta delta2 : ℕ → ℕ) where
    data_lengths : (a n : ℕ)
        → HaveLengths (map section_unit (map (λ i. data_section (section_of_datagram frame mac delta i)) (range_with_len a n)))
        (map section_unit (map (λ i. data_section (section_of_datagram frame other delta2 i)) (range_with_len a n)))
    data_lengths a zero = tt
    data_lengths a (suc n) = (
      data_size (mac (datagram_at frame.datagrams a)) (datagram_at frame.datagrams a) (section_of_datagram frame mac delta a).real_time
          ∙ sym (data_size (other (datagram_at frame.datagrams a)) (datagram_at frame.datagrams a) (section_of_datagram frame other delta2 a).real_time),
      data_lengths (a + 1) n,
    )

    column_lengths : (a n : ℕ)
        → HaveLengths (map section_unit (map (λ k. parity_section (section_of_column rows frame delta k)) (range_with_len a n)))
        (map section_unit (map (λ k. parity_section (section_of_column rows frame delta2 k)) (range_with_len a n)))
    column_lengths a zero = tt
    column_lengths a (suc n) = (
      column_size (section_of_column rows frame delta a) ∙ sym (column_size (section_of_column rows frame delta2 a)),
      column_lengths (a + 1) n,
    )

  pub same_lengths : (unicast : List ℕ) (delta : ℕ → ℕ) (ds : List (List ℕ)) → HaveLengths (units_with_delta rows columns unicast delta ds) (sized_units rows columns ds)
  same_lengths unicast delta ds =
      subst (λ (us : List (List ℕ)). HaveLengths us (sized_units rows columns ds)) (sym (parts unicast delta))
      (subst (λ (us : List (List ℕ)). HaveLengths (of_data unicast delta ++ of_parity unicast delta) us) (sym (parts [] (λ i. 0)))
      (have_both (of_data unicast delta) (of_data [] (λ i. 0)) (of_parity unicast delta) (of_parity [] (λ i. 0))
      (data_lengths (frame_of rows columns ds) (mac_for unicast) (mac_for []) delta (λ i. 0) 0 (length ds))
      (column_lengths (frame_of rows columns ds) (mac_for unicast) (mac_for []) delta (λ i. 0) 0 columns)))
    where
      of_data : List ℕ → (ℕ → ℕ) → List (List ℕ)
      of_data unicast2 delta2 = map section_unit (map (λ i. data_section (section_of_datagram (frame_of rows columns ds) (mac_for unicast2) delta2 i)) (range_with_len 0 (length ds)))

      of_parity : List ℕ → (ℕ → ℕ) → List (List ℕ)
      of_parity unicast2 delta2 = map section_unit (map (λ k. parity_section (section_of_column rows (frame_of rows columns ds) delta2 k)) (range_with_len 0 columns))

      parts : (unicast2 : List ℕ) (delta2 : ℕ → ℕ) → units_with_delta rows columns unicast2 delta2 ds ≡ of_data unicast2 delta2 ++ of_parity unicast2 delta2
      parts unicast2 delta2 =
          map-append section_unit (map (λ i. data_section (section_of_datagram (frame_of rows columns ds) (mac_for unicast2) delta2 i)) (range_with_len 0 (length ds)))
          (map (λ k. parity_section (section_of_column rows (frame_of rows columns ds) delta2 k)) (range_with_len 0 columns))

  -- so a burst has as many packets as its sections by their sizes
  pub burst_size_is : (unicast : List ℕ) (delta : ℕ → ℕ) (ds : List (List ℕ)) → size_of (units_with_delta rows columns unicast delta ds) ≡ burst_size rows columns ds
  burst_size_is unicast delta ds =
      counted section_form true 0 0 0 0 (units_with_delta rows columns unicast delta ds) (sized_units rows columns ds) (same_lengths unicast delta ds)

  module _ (unicast : List ℕ) (schedule : FrameSchedule) (window : WindowFields) where
    pub sizes_are : (c : ℕ) (frames : List (List (List ℕ))) → map size_of (units_by_burst rows columns unicast schedule window c frames) ≡ map (burst_size rows columns) frames
    sizes_are c [] = refl
    sizes_are c (frame ∷ frames) = ap₂ (λ (n : ℕ) (l : List ℕ). n ∷ l) (burst_size_is unicast _ frame) (sizes_are (c + 1) frames)

    pub length-bursts : (pid counter c : ℕ) (frames : List (List (List ℕ)))
        → length (packetized_apart pid counter (units_by_burst rows columns unicast schedule window c frames)) ≡ sum (map (burst_size rows columns) frames)
    length-bursts pid counter c frames = length-apart pid counter (units_by_burst rows columns unicast schedule window c frames) ∙ ap sum (sizes_are c frames)
