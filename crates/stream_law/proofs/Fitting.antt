-- The bursts of what is offered fit their windows.
use Rattle.std.proofs.Common.{◌≡◌, ℕ, zero, suc, ◌+◌, ◌*◌, ◌≤◌, Bool, true, false, cond, leb, List, [], ◌∷◌, ◌++◌, length, map, drop, refl, sym, ap, subst, ◌∙◌, arith, length-take, Option, Some, None}
use Rattle.std.specs.Prelude.{slice_index, All}
use Rattle.std.specs.List.{fold, range_with_len}
use Rattle.std.proofs.lemmas.Bool.{and_parts}
use Rattle.std.proofs.lemmas.List.{map-append}
use Rattle.fec_frame_spec.specs.Sections.{FrameSection, data_section, parity_section}
use Rattle.fec_frame_spec.specs.Frame.{datagram_at}
use Rattle.fec_frame_spec.specs.Sender.{fits_table, with_datagram, frame_of, section_of_datagram, section_of_column, section_unit}
use Rattle.unit_stream.specs.Packing.{byte_count}
use Rattle.plan_spec.specs.Plan.{KindFields, ule, mpe, fec, gse, PlanFields, SlicedFields, sliced_of}
use Rattle.plan_spec.specs.Changes.{plan_in}
use Rattle.plan_spec.specs.Route.{longest_of}
use Rattle.plan_spec.specs.Valid.{is_plan}
use Rattle.plan_spec.specs.Wholes.{is_whole_plan}
use Rattle.plan_spec.specs.Offered.{datagrams as datagrams_of, offered_in}
use Rattle.slice_law.specs.Packets.{AreSome}
use Rattle.slice_law.proofs.Fits.{fits_window as fits_its_window}
use Rattle.stream_spec.specs.Services.{kind_at}
use Rattle.stream_spec.specs.Units.{mac_for, sized_units, burst_size, fits_window, datagrams_by_burst, burst_sizes}
use Rattle.stream_law.specs.Words.{IsByteDatagram, FitsWindow}
use Rattle.stream_law.proofs.Framed.{AreShort, byte_both, data_size, column_size, all_data, all_columns}
use Rattle.stream_law.proofs.Units.{AreTaken}
use Rattle.stream_law.proofs.Versions.{taken_in_version}
use Rattle.stream_law.proofs.Kept.{sliced_kept, sizes_kept}
use Rattle.stream_law.proofs.Wholes.{version_accepted}

no_more : (m n : ℕ) → leb m n ≡ true → m ≤ n
no_more m n e = grind (arith, e)

-- one datagram with its columns
module _ (rows columns : ℕ) (d : List ℕ) where
  abbrev of_data : ℕ → FrameSection
  of_data n = data_section (section_of_datagram (frame_of rows columns (d ∷ [])) (mac_for []) (λ i. 0) n)

  abbrev of_column : ℕ → FrameSection
  of_column k = parity_section (section_of_column rows (frame_of rows columns (d ∷ [])) (λ i. 0) k)

  parts : sized_units rows columns (d ∷ []) ≡ map section_unit (map of_data (range_with_len 0 1)) ++ map section_unit (map of_column (range_with_len 0 columns))
  parts = map-append section_unit (map of_data (range_with_len 0 1)) (map of_column (range_with_len 0 columns))

  data_is : (n : ℕ) → length (section_unit (of_data n)) ≡ length (datagram_at (d ∷ []) n) + 16
  data_is n =
      data_size (mac_for [] (datagram_at (d ∷ []) n)) (datagram_at (d ∷ []) n)
      (section_of_datagram (frame_of rows columns (d ∷ [])) (mac_for []) (λ i. 0) n).real_time

  column_is : (k : ℕ) → length (section_unit (of_column k)) ≤ rows + 16
  column_is k =
      omega (
        arith,
        column_size (section_of_column rows (frame_of rows columns (d ∷ [])) (λ i. 0) k),
        length-take rows (drop (k * rows) (frame_of rows columns (d ∷ [])).parity),
      )

  one_size : length d ≤ 4080 → byte_count (sized_units rows columns (d ∷ [])) ≤ 4096 + columns * (rows + 16)
  one_size le =
      omega (
        arith,
        ap byte_count parts,
        byte_both (map section_unit (map of_data (range_with_len 0 1))) (map section_unit (map of_column (range_with_len 0 columns))),
        all_data of_data (d ∷ []) 0 (λ i less. let at : 0 + i ≡ i = omega arith in ap (λ (n : ℕ). length (section_unit (of_data n))) at ∙ data_is i),
        all_columns of_column (rows + 16) 0 columns column_is,
        le,
      )

  some_columns : (a n : ℕ) → AreSome (map section_unit (map of_column (range_with_len a n)))
  some_columns a zero = tt
  some_columns a (suc n) = (omega (arith, column_size (section_of_column rows (frame_of rows columns (d ∷ [])) (λ i. 0) a)), some_columns (a + 1) n)

  all_some : AreSome (sized_units rows columns (d ∷ []))
  all_some = subst AreSome (sym parts) (omega (arith, data_is 0), some_columns 0 columns)

-- each burst has at most so many packets
module _ (rows columns slots : ℕ) (alone : (d : List ℕ) → length d ≤ 4080 → burst_size rows columns (d ∷ []) ≤ slots) where
  abbrev AllFit : List (List (List ℕ)) → Type 0
  AllFit [] = Unit {0}
  AllFit (frame ∷ frames) = (burst_size rows columns frame ≤ slots) × AllFit frames

  fit_with : (frames : List (List (List ℕ))) (d : List ℕ) → length d ≤ 4080 → AllFit frames → AllFit (with_datagram (fits_window rows columns slots) frames d)
  fit_with [] d short fit = (alone d short, tt)
  fit_with (last ∷ []) d short fit = by_fit (fits_window rows columns slots (last ++ d ∷ [])) refl
    where
      by_fit : (is : Bool) → fits_window rows columns slots (last ++ d ∷ []) ≡ is → AllFit (cond is ((last ++ d ∷ []) ∷ []) (last ∷ (d ∷ []) ∷ []))
      by_fit true e =
          (no_more (burst_size rows columns (last ++ d ∷ [])) slots (and_parts (fits_table rows (last ++ d ∷ [])) (leb (burst_size rows columns (last ++ d ∷ [])) slots) e).1, tt)
      by_fit false e = (fit.0, (alone d short, tt))
  fit_with (frame ∷ next ∷ others) d short fit = (fit.0, fit_with (next ∷ others) d short fit.1)

  fit_from : (ds : List (List ℕ)) (frames : List (List (List ℕ))) → AreShort ds → AllFit frames → AllFit (fold (with_datagram (fits_window rows columns slots)) frames ds)
  fit_from [] frames short fit = fit
  fit_from (d ∷ ds) frames short fit = fit_from ds (with_datagram (fits_window rows columns slots) frames d) short.1 (fit_with frames d short.0 fit)

  size_at : (frames : List (List (List ℕ))) → AllFit frames → (c : ℕ) → slice_index (map (burst_size rows columns) frames) c ≤ slots
  size_at [] fit c = omega arith
  size_at (frame ∷ frames) fit zero = fit.0
  size_at (frame ∷ frames) fit (suc c) = size_at frames fit.1 c

  pub sizes_fit : (ds : List (List ℕ)) → AreShort ds → (c : ℕ) → slice_index (map (burst_size rows columns) (datagrams_by_burst rows columns slots ds)) c ≤ slots
  sizes_fit ds short c = size_at (datagrams_by_burst rows columns slots ds) (fit_from ds [] short tt) c

-- of an accepted plan
module _ (plan : PlanFields) (accepted : is_plan plan ≡ true) (k : ℕ) (fields : SlicedFields) (is : sliced_of (kind_at plan k) ≡ Some fields) where
  pub alone_fits : (d : List ℕ) → length d ≤ 4080 → burst_size fields.rows fields.parity (d ∷ []) ≤ fields.length
  alone_fits d short =
      fits_its_window plan accepted k fields is 0 0 (sized_units fields.rows fields.parity (d ∷ [])) (all_some fields.rows fields.parity d) (one_size fields.rows fields.parity d short)

  -- the datagrams that it takes
  short_of : (kind : KindFields) → sliced_of kind ≡ Some fields → (ds : List (List ℕ)) → AreTaken kind ds → AreShort ds
  short_of kind e [] taken = tt
  short_of kind e (d ∷ ds) taken = (omega (arith, taken.0.size, longest kind e), short_of kind e ds taken.1)
    where
      longest : (of : KindFields) → sliced_of of ≡ Some fields → longest_of of ≤ 4080
      longest (ule pid address packing) e2 = absurd (cc)
      longest (mpe pid) e2 = absurd (cc)
      longest (fec pid rows parity window) e2 = omega arith
      longest (gse isi address) e2 = absurd (cc)

  kind_fits : (kind : KindFields) → sliced_of kind ≡ Some fields → (ds : List (List ℕ)) → AreTaken kind ds → (c : ℕ) → slice_index (burst_sizes kind ds) c ≤ fields.length
  kind_fits (ule pid address packing) e ds taken c = absurd (cc)
  kind_fits (mpe pid) e ds taken c = absurd (cc)
  kind_fits (fec pid rows parity None) e ds taken c = absurd (cc)
  kind_fits (fec pid rows parity (Some window)) e ds taken c =
      by_fields (record { rows = rows; parity = parity; start = window.start; length = window.length }) e
      (short_of (fec pid rows parity (Some window)) e ds taken)
    where
      by_fields : (own : SlicedFields) → Some own ≡ Some fields → AreShort ds
          → slice_index (map (burst_size own.rows own.parity) (datagrams_by_burst own.rows own.parity own.length ds)) c ≤ fields.length
      by_fields own e2 short =
          let same : own ≡ fields = cc in
          subst (λ (f : SlicedFields). slice_index (map (burst_size f.rows f.parity) (datagrams_by_burst f.rows f.parity f.length ds)) c ≤ fields.length) (sym same)
          (sizes_fit fields.rows fields.parity fields.length alone_fits ds short c)
  kind_fits (gse isi address) e ds taken c = absurd (cc)

-- of all versions
pub offered_fit : (plan : PlanFields) → is_whole_plan plan ≡ true → (gives : List (Option (List ℕ))) → All IsByteDatagram (datagrams_of gives) → (k : ℕ)
    → FitsWindow plan (offered_in plan gives) k
offered_fit plan whole gives are k version c fields within is =
    subst (λ (l : List ℕ). slice_index l c ≤ fields.length) (sizes_kept plan version k (offered_in plan gives version k))
    (kind_fits (plan_in plan version) (version_accepted plan whole version within) k fields (sliced_kept plan version k ∙ is) (kind_at (plan_in plan version) k) (sliced_kept plan version k ∙ is)
    (offered_in plan gives version k) (taken_in_version plan version gives k are) c)
