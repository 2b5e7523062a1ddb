-- A frame of a sender is a frame, and each of its units reads as its section.
use Rattle.std.proofs.Common.{◌≡◌, ◌⊎◌, inl, inr, ℕ, zero, suc, ◌+◌, ◌-◌, ◌*◌, ◌/◌, ◌^◌, ◌<◌, ◌≤◌, Bool, true, false, cond, eqb, List, [], ◌∷◌, ◌++◌, length, map, filter, drop, replicate, Option, Some, refl, ap, sym, ◌∙◌, subst, arith, le-leb, length-drop}
use Rattle.std.specs.Prelude.{option_to_list, option_map}
use Rattle.std.specs.List.{range_with_len, All}
use Rattle.std.proofs.Math.Nat.{mul-le-mul_left}
use Rattle.std.proofs.lemmas.Bool.{cases_lt}
use Rattle.std.proofs.lemmas.List.{length-take-le}
use Rattle.std.proofs.lemmas.List.Elements.{All-append, All-cons, All-get_or, All-head, All-nil, All-replicate, All-tail}
use Rattle.wire_spec.specs.Bytes.{AreBytes}
use Rattle.wire_spec.specs.Datagram.{IsDatagram}
use Rattle.wire_spec.specs.Lists.{joined}
use Rattle.fec_spec.specs.Codeword.{IsCodeword}
use Rattle.fec_spec.specs.Table.{table_row}
use Rattle.ts_spec.specs.Form.{IsUnit}
use Rattle.section_spec.specs.Section.{section_fields, section_form}
use Rattle.section_spec.specs.Mpe.{MpeFields, FecFields, RealTimeFields, IsRows, IsRealTime, IsWritableMpe, IsWritableFec, mpe_of, fec_of, mpe_bytes, fec_bytes, mpe_to_write}
use Rattle.fec_frame_spec.specs.Sections.{FrameSection, data_section, parity_section, sections_in, frame_sections_in, is_within_table, real_time_in}
use Rattle.fec_frame_spec.specs.Frame.{FrameFields, IsFrame, AreSectionsFrom, data_table, table_of, datagram_at, datagram_start}
use Rattle.fec_frame_spec.specs.Sender.{padding_of, parity_table, frame_of, sections_to_send, section_of_datagram, section_of_column, section_unit}
use Rattle.fec_frame_law.proofs.Places.{data_long, start_most, start_next}
use Rattle.fec_sent_law.proofs.Tables.{length-parity_table, rows_are_codewords}

-- Padding columns.

columns_most : (rows used : ℕ) → 0 < rows → used ≤ 191 * rows → (used + rows - 1) / rows ≤ 191
columns_most rows used some fits = by_size (cases_lt ((used + rows - 1) / rows) 192)
  where
    by_size : ((used + rows - 1) / rows < 192) ⊎ (192 ≤ (used + rows - 1) / rows) → (used + rows - 1) / rows ≤ 191
    by_size (inl less) = omega (arith, less)
    by_size (inr more) = absurd (omega (arith, mul-le-mul_left rows more, some, fits))

columns_enough : (rows used : ℕ) → 0 < rows → used ≤ rows * ((used + rows - 1) / rows)
columns_enough rows used some = omega (arith, some)

-- no padding column has a byte of the datagrams
padding_is_free : (rows used : ℕ) → 0 < rows → used ≤ 191 * rows → used ≤ (191 - padding_of rows used) * rows
padding_is_free rows used some fits =
    let n : ℕ = (used + rows - 1) / rows in
    let back : 191 - (191 - n) ≡ n = omega (arith, columns_most rows used some fits) in
    let enough : used ≤ n * rows = omega (arith, columns_enough rows used some) in
    subst (λ (k : ℕ). used ≤ k * rows) (sym back) enough

-- a byte more than none leaves a column
pub padding_most : (rows used : ℕ) → 0 < rows → 1 ≤ used → padding_of rows used ≤ 190
padding_most rows used some byte = by_count (cases_lt 0 ((used + rows - 1) / rows))
  where
    by_count : (0 < (used + rows - 1) / rows) ⊎ ((used + rows - 1) / rows ≤ 0) → padding_of rows used ≤ 190
    by_count (inl less) = omega (arith, less)
    by_count (inr none) =
        let zero_is : (used + rows - 1) / rows ≡ 0 = omega (arith, none) in
        let at : rows * ((used + rows - 1) / rows) ≡ 0 = ap (λ (k : ℕ). rows * k) zero_is ∙ (omega arith) in
        absurd (omega (arith, columns_enough rows used some, at, byte))

-- Bytes.

joined_bytes : (ds : List (List ℕ)) → All AreBytes ds → AreBytes (joined ds)
joined_bytes [] all = All-nil (λ (b : ℕ). b < 256)
joined_bytes (d ∷ ds) all = All-append (λ (b : ℕ). b < 256) d (joined ds) (All-head AreBytes d ds all) (joined_bytes ds (All-tail AreBytes d ds all))

table_bytes : (rows : ℕ) (ds : List (List ℕ)) → All AreBytes ds → AreBytes (data_table rows ds)
unfolding data_table
table_bytes rows ds all =
    All-append (λ (b : ℕ). b < 256) (joined ds) (replicate (191 * rows - length (joined ds)) 0) (joined_bytes ds all)
    (All-replicate (λ (b : ℕ). b < 256) (191 * rows - length (joined ds)) 0 (omega arith))

module _ (rows columns : ℕ) (rows_some : 0 < rows) (least : 1 ≤ columns) (most : columns ≤ 64)
    (ds : List (List ℕ)) (some : 0 < length ds) (are : All IsDatagram ds) (bytes : All AreBytes ds) (fits : length (joined ds) ≤ 191 * rows) where
  abbrev frame : FrameFields
  frame = frame_of rows columns ds

  whole_table : table_of rows frame ≡ data_table rows ds ++ parity_table rows (data_table rows ds)
  unfolding table_of
  whole_table = refl

  pub is_frame : IsFrame rows frame
  is_frame = record {
    some = some;
    datagrams_are = are;
    fits = fits;
    padding_free = padding_is_free rows (length (joined ds)) rows_some fits;
    columns_least = least;
    columns_most = most;
    parity_size = length-parity_table rows (data_table rows ds);
    codewords = λ r low.
        subst (λ (t : List ℕ). IsCodeword (table_row 255 rows t r)) (sym whole_table)
        (rows_are_codewords rows (data_table rows ds) (data_long rows ds fits) (table_bytes rows ds bytes) r low);
  }

-- The sections of a frame, one by one.

module _ (rows : ℕ) (frame : FrameFields) (mac : List ℕ → List ℕ) (delta : ℕ → ℕ) where
  abbrev data_at : ℕ → FrameSection
  data_at n = data_section (section_of_datagram frame mac delta n)

  abbrev column_at : ℕ → FrameSection
  column_at k = parity_section (section_of_column rows frame delta k)

  data_from : (n a : ℕ) (rest : List FrameSection) → a + n ≡ length frame.datagrams → AreSectionsFrom rows frame (length frame.datagrams) rest
      → AreSectionsFrom rows frame a (map data_at (range_with_len a n) ++ rest)
  data_from zero a rest size behind =
      let e : length frame.datagrams ≡ a = omega (arith, size) in subst (λ (i : ℕ). AreSectionsFrom rows frame i rest) e behind
  data_from (suc n) a rest size behind =
      ((omega (arith, size), record { datagram = refl; address = refl; table_boundary = refl; frame_boundary = refl }), data_from n (a + 1) rest (omega (arith, size)) behind)

  columns_from : (n b : ℕ) → b + n ≡ frame.columns → AreSectionsFrom rows frame (length frame.datagrams + b) (map column_at (range_with_len b n))
  columns_from zero b size = omega (arith, size)
  columns_from (suc n) b size =
      let at : length frame.datagrams + (b + 1) ≡ length frame.datagrams + b + 1 = omega arith in (
        (b, refl, omega (arith, size), record { column = refl; number = refl; last = omega (arith, size); padding = refl; frame_boundary = refl }),
        subst (λ (i : ℕ). AreSectionsFrom rows frame i (map column_at (range_with_len (b + 1) n))) at (columns_from n (b + 1) (omega (arith, size))),
      )

  pub all_sections_are : AreSectionsFrom rows frame 0 (sections_to_send rows frame mac delta)
  all_sections_are =
      let at : length frame.datagrams + 0 ≡ length frame.datagrams = omega arith in
      data_from (length frame.datagrams) 0 (map column_at (range_with_len 0 frame.columns)) (omega arith)
      (subst (λ (i : ℕ). AreSectionsFrom rows frame i (map column_at (range_with_len 0 frame.columns))) at (columns_from frame.columns 0 (omega arith)))

-- Each unit reads as its section.

pub record IsRead (rows : ℕ) (s : FrameSection) : Type 0 where
  pub unit : IsUnit section_form (section_unit s)
  pub reads : sections_in rows (section_unit s) ≡ s ∷ []
  pub read : frame_sections_in rows (section_unit s) ≡ s ∷ []

abbrev pub AreRead : ℕ → List FrameSection → Type 0
AreRead rows [] = Unit {0}
AreRead rows (s ∷ sections) = IsRead rows s × AreRead rows sections

read_both : (rows : ℕ) (a b : List FrameSection) → AreRead rows a → AreRead rows b → AreRead rows (a ++ b)
read_both rows [] b are others = others
read_both rows (s ∷ a) b are others = (are.0, read_both rows a b are.1 others)

reading : (rows : ℕ) (s : FrameSection) → IsUnit section_form (section_unit s) → sections_in rows (section_unit s) ≡ s ∷ [] → is_within_table rows s ≡ true → IsRead rows s
reading rows s unit reads within = record {
  unit = unit;
  reads = reads;
  read = ap (λ (l : List FrameSection). filter (is_within_table rows) l) reads ∙ ap (λ (b : Bool). cond b (s ∷ []) []) within;
}

module _
    (mpe_unit : (m : MpeFields) → IsWritableMpe m → IsUnit section_form (mpe_bytes m))
    (fec_unit : (f : FecFields) → IsWritableFec f → IsUnit section_form (fec_bytes f))
    (mpe_read : (m : MpeFields) → IsWritableMpe m → mpe_of (section_fields (mpe_bytes m)) ≡ Some m)
    (fec_read : (f : FecFields) → IsWritableFec f → fec_of (length f.column) (section_fields (fec_bytes f)) ≡ Some f)
    (mpe_can : (t : RealTimeFields) (mac datagram : List ℕ) → IsRealTime t → AreBytes mac → length mac ≡ 6 → IsDatagram datagram → length datagram ≤ 4080
    → IsWritableMpe (mpe_to_write mac (Some t) datagram)) where
  data_reads : (rows : ℕ) (m : MpeFields) → IsWritableMpe m → sections_in rows (mpe_bytes m) ≡ data_section m ∷ []
  data_reads rows m it = ap (λ (o : Option MpeFields). option_to_list (option_map data_section o) ++ []) (mpe_read m it)

  column_reads : (rows : ℕ) (f : FecFields) → length f.column ≡ rows → IsWritableFec f → sections_in rows (fec_bytes f) ≡ parity_section f ∷ []
  column_reads rows f size it =
      ap (λ (o : Option FecFields). option_to_list (option_map parity_section o))
      (ap (λ (n : ℕ). fec_of n (section_fields (fec_bytes f))) (sym size) ∙ fec_read f it)

  module _ (rows columns : ℕ) (rows_are : IsRows rows) (most : columns ≤ 64) (deltas : ℕ → ℕ) (below : (i : ℕ) → deltas i < 2 ^ 12)
      (mac : List ℕ → List ℕ) (mac_bytes : (d : List ℕ) → AreBytes d → AreBytes (mac d)) (mac_size : (d : List ℕ) → AreBytes d → length (mac d) ≡ 6)
      (ds : List (List ℕ)) (some : 1 ≤ length (joined ds)) (are : All IsDatagram ds) (bytes : All AreBytes ds) (short : All (λ (d : List ℕ). length d ≤ 4080) ds)
      (fits : length (joined ds) ≤ 191 * rows) where
    abbrev own : FrameFields
    own = frame_of rows columns ds

    rows_low : rows ≤ 1024
    rows_low = by_rows rows_are
      where
        by_rows : IsRows rows → rows ≤ 1024
        by_rows (inl is) = omega (arith, is)
        by_rows (inr (inl is)) = omega (arith, is)
        by_rows (inr (inr (inl is))) = omega (arith, is)
        by_rows (inr (inr (inr is))) = omega (arith, is)

    rows_some : 0 < rows
    rows_some = by_rows rows_are
      where
        by_rows : IsRows rows → 0 < rows
        by_rows (inl is) = omega (arith, is)
        by_rows (inr (inl is)) = omega (arith, is)
        by_rows (inr (inr (inl is))) = omega (arith, is)
        by_rows (inr (inr (inr is))) = omega (arith, is)

    data_read : (n : ℕ) → n < length ds → IsRead rows (data_section (section_of_datagram own mac deltas n))
    data_read n within = reading rows (data_section m) (mpe_unit m writable) (data_reads rows m writable) (le-leb (datagram_start ds n + length d) (191 * rows) end_is)
      where
        d : List ℕ
        d = datagram_at ds n

        t : RealTimeFields
        t = record { delta = deltas n; table_boundary = eqb (n + 1) (length ds); frame_boundary = false; address = datagram_start ds n }

        m : MpeFields
        m = mpe_to_write (mac d) (Some t) d

        end_is : datagram_start ds n + length d ≤ 191 * rows
        end_is = omega (arith, start_next ds n within, start_most ds (suc n), fits)

        writable : IsWritableMpe m
        writable =
            mpe_can t (mac d) d (record { delta_below = below n; address_below = omega (arith, end_is, rows_low) })
            (mac_bytes d (All-get_or AreBytes ds n [] within bytes)) (mac_size d (All-get_or AreBytes ds n [] within bytes)) (All-get_or IsDatagram ds n [] within are)
            (All-get_or (λ (x : List ℕ). length x ≤ 4080) ds n [] within short)

    parity : List ℕ
    parity = parity_table rows (data_table rows ds)

    column_read : (k : ℕ) → k < columns → IsRead rows (parity_section (section_of_column rows own deltas k))
    column_read k within = reading rows (parity_section f) (fec_unit f writable) (column_reads rows f size writable) refl
      where
        f : FecFields
        f = section_of_column rows own deltas k

        room : (k + 1) * rows ≤ 64 * rows
        room =
            let few : k + 1 ≤ 64 = omega (arith, within, most) in
            omega (arith, mul-le-mul_left rows few)

        size : length f.column ≡ rows
        size =
            length-take-le rows (drop (k * rows) (parity_table rows (data_table rows ds)))
            (omega (arith, length-drop (k * rows) (parity_table rows (data_table rows ds)), length-parity_table rows (data_table rows ds), room))

        writable : IsWritableFec f
        writable = record {
          padding_most = padding_most rows (length (joined ds)) rows_some some;
          number_most = omega (arith, within);
          last_most = omega (arith, most);
          delta_below = below (length ds + k);
          address_is = ap (λ (n : ℕ). k * n) (sym size);
          rows = subst IsRows (sym size) rows_are;
        }

    all_data_read : (n a : ℕ) → a + n ≤ length ds → AreRead rows (map (λ (i : ℕ). data_section (section_of_datagram own mac deltas i)) (range_with_len a n))
    all_data_read zero a within = tt
    all_data_read (suc n) a within = (data_read a (omega (arith, within)), all_data_read n (a + 1) (omega (arith, within)))

    all_columns_read : (n b : ℕ) → b + n ≤ columns → AreRead rows (map (λ (k : ℕ). parity_section (section_of_column rows own deltas k)) (range_with_len b n))
    all_columns_read zero b within = tt
    all_columns_read (suc n) b within = (column_read b (omega (arith, within)), all_columns_read n (b + 1) (omega (arith, within)))

    pub frame_read : AreRead rows (sections_to_send rows own mac deltas)
    frame_read =
        read_both rows (map (λ (i : ℕ). data_section (section_of_datagram own mac deltas i)) (range_with_len 0 (length ds)))
        (map (λ (k : ℕ). parity_section (section_of_column rows own deltas k)) (range_with_len 0 columns))
        (all_data_read (length ds) 0 (omega arith)) (all_columns_read columns 0 (omega arith))

-- All sections of a frame may have one delta_t.

abbrev pub AreAt : ℕ → List FrameSection → Type 0
AreAt delta [] = Unit {0}
AreAt delta (s ∷ sections) = ((real_time_in s).delta ≡ delta) × AreAt delta sections

at_both : (delta : ℕ) (a b : List FrameSection) → AreAt delta a → AreAt delta b → AreAt delta (a ++ b)
at_both delta [] b are others = others
at_both delta (s ∷ a) b are others = (are.0, at_both delta a b are.1 others)

module _ (rows : ℕ) (frame : FrameFields) (mac : List ℕ → List ℕ) (delta : ℕ) where
  data_same : (n a : ℕ) → AreAt delta (map (λ (i : ℕ). data_section (section_of_datagram frame mac (λ (k : ℕ). delta) i)) (range_with_len a n))
  data_same zero a = tt
  data_same (suc n) a = (refl, data_same n (a + 1))

  columns_same : (n b : ℕ) → AreAt delta (map (λ (k : ℕ). parity_section (section_of_column rows frame (λ (i : ℕ). delta) k)) (range_with_len b n))
  columns_same zero b = tt
  columns_same (suc n) b = (refl, columns_same n (b + 1))

  pub frame_at_one : AreAt delta (sections_to_send rows frame mac (λ (k : ℕ). delta))
  frame_at_one =
      at_both delta (map (λ (i : ℕ). data_section (section_of_datagram frame mac (λ (k : ℕ). delta) i)) (range_with_len 0 (length frame.datagrams)))
      (map (λ (k : ℕ). parity_section (section_of_column rows frame (λ (i : ℕ). delta) k)) (range_with_len 0 frame.columns))
      (data_same (length frame.datagrams) 0) (columns_same frame.columns 0)

-- what each section has that reads so
pub all_read : (rows : ℕ) (P : FrameSection → Type 0) (sections : List FrameSection) → ((s : FrameSection) → IsRead rows s → P s) → AreRead rows sections → All P sections
all_read rows P [] each are = All-nil P
all_read rows P (s ∷ sections) each are = All-cons P s sections (each s are.0) (all_read rows P sections each are.1)
