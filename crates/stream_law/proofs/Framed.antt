-- The units of frames: how many bytes they have.
use Rattle.std.proofs.Common.{◌≡◌, ℕ, zero, suc, ◌+◌, ◌*◌, ◌%◌, ◌<◌, ◌≤◌, Bool, true, false, cond, leb, get_or, List, [], ◌∷◌, ◌++◌, length, map, drop, refl, ap, ◌∙◌, arith, Some, length-take}
use Rattle.std.specs.Int.{w32, to_be_bytes}
use Rattle.std.specs.List.{fold, range_with_len}
use Rattle.std.proofs.lemmas.List.{length-append, map-append}
use Rattle.wire_spec.specs.Lists.{joined}
use Rattle.section_spec.specs.Mpe.{RealTimeFields, FecFields, real_time_number, mpe_to_write, mpe_body, mpe_bytes, fec_body, fec_bytes}
use Rattle.section_codec.proofs.Written.{length-section_bytes}
use Rattle.unit_stream.specs.Packing.{byte_count}
use Rattle.fec_frame_spec.specs.Sections.{FrameSection, data_section, parity_section}
use Rattle.fec_frame_spec.specs.Frame.{datagram_at}
use Rattle.fec_frame_spec.specs.Sender.{fits_table, with_datagram, frame_of, section_of_datagram, section_of_column, section_unit}
use Rattle.stream_spec.specs.Units.{mac_for, datagrams_by_frame, units_of_frame, units_of_frames}

-- Bytes of lists.

pub byte_both : (a b : List (List ℕ)) → byte_count (a ++ b) ≡ byte_count a + byte_count b
byte_both [] b = omega arith
byte_both (x ∷ a) b = omega (arith, byte_both a b)

byte_joined : (l : List (List ℕ)) → length (joined l) ≡ byte_count l
byte_joined [] = refl
byte_joined (x ∷ l) = omega (arith, length-append x (joined l), byte_joined l)

-- each of the datagrams has at most 4,080 bytes
abbrev pub AreShort : List (List ℕ) → Type 0
AreShort [] = Unit {0}
AreShort (d ∷ ds) = (length d ≤ 4080) × AreShort ds

-- The sections of a frame.

pub data_size : (mac datagram : List ℕ) (t : RealTimeFields) → length (mpe_bytes (mpe_to_write mac (Some t) datagram)) ≡ length datagram + 16
data_size mac datagram t = omega (arith, length-section_bytes 0x3E 0xB0 (mpe_body (mpe_to_write mac (Some t) datagram)), nine (length datagram))
  where
    nine : (n : ℕ) → suc (suc (suc (suc (suc (suc (suc (suc (suc n)))))))) ≡ n + 9
    nine n = omega arith

pub column_size : (f : FecFields) → length (fec_bytes f) ≡ length f.column + 16
column_size f = omega (arith, length-section_bytes 0x78 0xB0 (fec_body f), five (length (to_be_bytes w32 (real_time_number f.real_time) ++ f.column)), four, length-append (to_be_bytes w32 (real_time_number f.real_time)) f.column)
  where
    five : (n : ℕ) → suc (suc (suc (suc (suc n)))) ≡ n + 5
    five n = omega arith

    four : length (to_be_bytes w32 (real_time_number f.real_time)) ≡ 4
    four = refl

-- one of each of some datagrams, numbered from one on
pub all_data : (section : ℕ → FrameSection) (ds : List (List ℕ)) (a : ℕ) → ((i : ℕ) → i < length ds → length (section_unit (section (a + i))) ≡ length (get_or ds i []) + 16)
    → byte_count (map section_unit (map section (range_with_len a (length ds)))) ≡ byte_count ds + 16 * length ds
all_data section [] a each = refl
all_data section (d ∷ ds) a each =
    let here : a + 0 ≡ a = omega arith in
    omega (
      arith,
      each 0 (omega arith),
      ap (λ (n : ℕ). length (section_unit (section n))) here,
      all_data section ds (a + 1)
          (λ i less. let next : a + 1 + i ≡ a + suc i = omega arith in ap (λ (n : ℕ). length (section_unit (section n))) next ∙ each (suc i) (omega (arith, less))),
    )

-- some columns, numbered from one on
pub all_columns : (section : ℕ → FrameSection) (most a n : ℕ) → ((k : ℕ) → length (section_unit (section k)) ≤ most) → byte_count (map section_unit (map section (range_with_len a n))) ≤ n * most
all_columns section most a zero each = omega arith
all_columns section most a (suc n) each =
    let more : suc n * most ≡ n * most + most = one_more n in omega (arith, more, each a, all_columns section most (a + 1) n each)
  where
    one_more : (m : ℕ) → suc m * most ≡ m * most + most
    one_more m = omega arith

module _ (rows columns : ℕ) (unicast : List ℕ) (least : 256 ≤ rows) (most : rows ≤ 1024) (few : columns ≤ 64) where
  frame_size : (number : ℕ) (frame : List (List ℕ)) → byte_count (units_of_frame rows columns unicast number frame) ≤ byte_count frame + 16 * length frame + 66560
  frame_size number frame =
      omega (
        arith,
        ap byte_count (map-append section_unit (map of_data (range_with_len 0 (length frame))) (map of_column (range_with_len 0 columns))),
        byte_both (map section_unit (map of_data (range_with_len 0 (length frame)))) (map section_unit (map of_column (range_with_len 0 columns))),
        all_data of_data frame 0 data_is,
        all_columns of_column 1040 0 columns column_is,
        few,
      )
    where
      of_data : ℕ → FrameSection
      of_data n = data_section (section_of_datagram (frame_of rows columns frame) (mac_for unicast) (λ i. number % 4096) n)

      of_column : ℕ → FrameSection
      of_column k = parity_section (section_of_column rows (frame_of rows columns frame) (λ i. number % 4096) k)

      data_is : (i : ℕ) → i < length frame → length (section_unit (of_data (0 + i))) ≡ length (get_or frame i []) + 16
      data_is i less =
          let at : 0 + i ≡ i = omega arith in
          ap (λ (n : ℕ). length (section_unit (of_data n))) at
          ∙ data_size (mac_for unicast (datagram_at frame i)) (datagram_at frame i)
          (section_of_datagram (frame_of rows columns frame) (mac_for unicast) (λ j. number % 4096) i).real_time

      column_is : (k : ℕ) → length (section_unit (of_column k)) ≤ 1040
      column_is k =
          omega (
            arith,
            column_size (section_of_column rows (frame_of rows columns frame) (λ i. number % 4096) k),
            length-take rows (drop (k * rows) (frame_of rows columns frame).parity),
            most,
          )

  -- the datagrams of some frames: their bytes and their number
  abbrev bytes_of : List (List (List ℕ)) → ℕ
  bytes_of [] = 0
  bytes_of (frame ∷ frames) = byte_count frame + bytes_of frames

  abbrev count_of : List (List (List ℕ)) → ℕ
  count_of [] = 0
  count_of (frame ∷ frames) = length frame + count_of frames

  frames_size : (number : ℕ) (frames : List (List (List ℕ)))
      → byte_count (units_of_frames rows columns unicast number frames) ≤ bytes_of frames + 16 * count_of frames + 66560 * length frames
  frames_size number [] = omega arith
  frames_size number (frame ∷ frames) =
      omega (
        arith,
        byte_both (units_of_frame rows columns unicast number frame) (units_of_frames rows columns unicast (number + 1) frames),
        frame_size number frame,
        frames_size (number + 1) frames,
      )

  -- Datagrams that are divided into frames.

  bytes_with : (frames : List (List (List ℕ))) (d : List ℕ) → bytes_of (with_datagram (fits_table rows) frames d) ≡ bytes_of frames + length d
  bytes_with [] d = omega arith
  bytes_with (last ∷ []) d = by_fit (fits_table rows (last ++ d ∷ []))
    where
      by_fit : (is : Bool) → bytes_of (cond is ((last ++ d ∷ []) ∷ []) (last ∷ (d ∷ []) ∷ [])) ≡ bytes_of (last ∷ []) + length d
      by_fit true = omega (arith, byte_both last (d ∷ []))
      by_fit false = omega arith
  bytes_with (frame ∷ next ∷ others) d = omega (arith, bytes_with (next ∷ others) d)

  count_with : (frames : List (List (List ℕ))) (d : List ℕ) → count_of (with_datagram (fits_table rows) frames d) ≡ count_of frames + 1
  count_with [] d = omega arith
  count_with (last ∷ []) d = by_fit (fits_table rows (last ++ d ∷ []))
    where
      by_fit : (is : Bool) → count_of (cond is ((last ++ d ∷ []) ∷ []) (last ∷ (d ∷ []) ∷ [])) ≡ count_of (last ∷ []) + 1
      by_fit true = omega (arith, length-append last (d ∷ []))
      by_fit false = omega arith
  count_with (frame ∷ next ∷ others) d = omega (arith, count_with (next ∷ others) d)

  bytes_in : (ds : List (List ℕ)) (frames : List (List (List ℕ))) → bytes_of (fold (with_datagram (fits_table rows)) frames ds) ≡ bytes_of frames + byte_count ds
  bytes_in [] frames = omega arith
  bytes_in (d ∷ ds) frames = omega (arith, bytes_in ds (with_datagram (fits_table rows) frames d), bytes_with frames d)

  count_in : (ds : List (List ℕ)) (frames : List (List (List ℕ))) → count_of (fold (with_datagram (fits_table rows)) frames ds) ≡ count_of frames + length ds
  count_in [] frames = omega arith
  count_in (d ∷ ds) frames = omega (arith, count_in ds (with_datagram (fits_table rows) frames d), count_with frames d)

  -- All frames but the last are so full that no datagram of 4,080 bytes is missing: there are few.

  abbrev AreFull : List (List (List ℕ)) → Type 0
  AreFull [] = Unit {0}
  AreFull (frame ∷ []) = Unit {0}
  AreFull (frame ∷ next ∷ others) = (44816 ≤ byte_count frame) × AreFull (next ∷ others)

  full_first : (frame : List (List ℕ)) (frames : List (List (List ℕ))) → 44816 ≤ byte_count frame → AreFull frames → AreFull (frame ∷ frames)
  full_first frame [] le full = tt
  full_first frame (next ∷ others) le full = (le, full)

  full_with : (frames : List (List (List ℕ))) (d : List ℕ) → length d ≤ 4080 → AreFull frames → AreFull (with_datagram (fits_table rows) frames d)
  full_with [] d short full = tt
  full_with (last ∷ []) d short full = by_fit (fits_table rows (last ++ d ∷ [])) refl
    where
      passes : (n : ℕ) → leb n (191 * rows) ≡ false → 191 * rows < n
      passes n e = grind (arith, e)

      by_fit : (is : Bool) → fits_table rows (last ++ d ∷ []) ≡ is → AreFull (cond is ((last ++ d ∷ []) ∷ []) (last ∷ (d ∷ []) ∷ []))
      by_fit true e = tt
      by_fit false e =
          (omega (arith, least, passes (length (joined (last ++ d ∷ []))) e, byte_joined (last ++ d ∷ []), byte_both last (d ∷ []), short), tt)
  full_with (frame ∷ next ∷ others) d short full =
      full_first frame (with_datagram (fits_table rows) (next ∷ others) d) full.0 (full_with (next ∷ others) d short full.1)

  full_in : (ds : List (List ℕ)) (frames : List (List (List ℕ))) → AreShort ds → AreFull frames → AreFull (fold (with_datagram (fits_table rows)) frames ds)
  full_in [] frames short full = full
  full_in (d ∷ ds) frames short full = full_in ds (with_datagram (fits_table rows) frames d) short.1 (full_with frames d short.0 full)

  few_full : (frames : List (List (List ℕ))) → AreFull frames → 44816 * length frames ≤ bytes_of frames + 44816
  few_full [] full = omega arith
  few_full (frame ∷ []) full = omega arith
  few_full (frame ∷ next ∷ others) full = omega (arith, full.0, few_full (next ∷ others) full.1)

  -- the units of all frames
  pub framed_size : (number : ℕ) (ds : List (List ℕ)) → AreShort ds
      → byte_count (units_of_frames rows columns unicast number (datagrams_by_frame rows ds)) ≤ 3 * byte_count ds + 16 * length ds + 89632
  framed_size number ds short =
      omega (
        arith,
        frames_size number (datagrams_by_frame rows ds),
        bytes_in ds [],
        count_in ds [],
        few_full (datagrams_by_frame rows ds) (full_in ds [] short tt),
      )
