-- How many packets a burst may have, and all bursts of a part.
use Rattle.std.proofs.Common.{◌≡◌, inl, inr, ℕ, zero, suc, ◌+◌, ◌-◌, ◌*◌, ◌<◌, ◌≤◌, true, List, [], ◌∷◌, ◌++◌, length, map, drop, get_or, sum, refl, sym, ap, subst, ◌∙◌, arith, length-take}
use Rattle.std.specs.Prelude.{All}
use Rattle.std.specs.List.{range_with_len}
use Rattle.std.proofs.lemmas.List.{length-append, map-append}
use Rattle.std.proofs.lemmas.List.Elements.{All-drop, All-take}
use Rattle.std.proofs.lemmas.List.Sums.{sum_by-cons}
use Rattle.wire_spec.specs.Lists.{joined}
use Rattle.wire_spec.specs.Datagram.{IsDatagram}
use Rattle.section_spec.specs.Mpe.{IsRows}
use Rattle.section_spec.specs.Section.{section_form}
use Rattle.fec_frame_spec.specs.Sections.{FrameSection, data_section, parity_section}
use Rattle.fec_frame_spec.specs.Frame.{datagram_at}
use Rattle.fec_frame_spec.specs.Sender.{frame_of, section_of_datagram, section_of_column, section_unit}
use Rattle.unit_stream.specs.Packing.{byte_count, packetized, pieces}
use Rattle.unit_stream.proofs.Written.{length-numbered}
use Rattle.unit_stream.specs.Packers.{AreRising, end_of}
use Rattle.slice_law.specs.Packets.{AreSome}
use Rattle.slice_law.proofs.Filling.{few_packets}
use Rattle.fec_sent_law.specs.Frames.{AreSendable, IsSendable}
use Rattle.stream_spec.specs.Units.{mac_for, sized_units, burst_size}
use Rattle.stream_law.proofs.Framed.{byte_both, data_size, column_size, all_data, all_columns}
use Rattle.fec_units.specs.Parts.{part_of}
use Rattle.fec_units.specs.Bursts.{parts_from}

pub all_head : {X : Type 0} (P : X → Type 0) (x : X) (xs : List X) → All P (x ∷ xs) → P x
all_head P x xs all = all 0 x (omega arith)

all_tail : {X : Type 0} (P : X → Type 0) (x : X) (xs : List X) → All P (x ∷ xs) → All P xs
all_tail P x xs all = λ k d less. all (suc k) d (omega (arith, less))

-- the bytes of datagrams
shortest : (d : List ℕ) → IsDatagram d → 20 ≤ length d
shortest d (inl is) = omega (arith, is.header, is.holds_header, is.size)
shortest d (inr is) = omega (arith, is.size)

joined_least : (ds : List (List ℕ)) → AreSendable ds → (20 * length ds ≤ length (joined ds)) × (byte_count ds ≡ length (joined ds))
joined_least [] are = (omega arith, refl)
joined_least (d ∷ ds) are =
    let rest : (20 * length ds ≤ length (joined ds)) × (byte_count ds ≡ length (joined ds)) = joined_least ds (all_tail IsSendable d ds are) in
    (omega (arith, length-append d (joined ds), shortest d (all_head IsSendable d ds are).is, rest.0), omega (arith, length-append d (joined ds), rest.1))

pub sendable_part : (from end : ℕ) (list : List (List ℕ)) → AreSendable list → AreSendable (part_of from end list)
sendable_part from end list are = All-take IsSendable (end - from) (drop from list) (All-drop IsSendable from list are)

some_both : (a b : List (List ℕ)) → AreSome a → AreSome b → AreSome (a ++ b)
some_both [] b are others = others
some_both (unit ∷ a) b are others = (are.0, some_both a b are.1 others)

some_packets : (units : List (List ℕ)) → 1 ≤ byte_count units → 1 ≤ length (packetized section_form true 0 0 units)
some_packets [] some = absurd (omega (arith, some))
some_packets (unit ∷ units) some =
    omega (arith, length-numbered 0 0 (pieces (byte_count (unit ∷ units)) 1 true [] (unit ∷ units)), of_pieces (byte_count (unit ∷ units)) some)
  where
    of_pieces : (most : ℕ) → 1 ≤ most → 1 ≤ length (pieces most 1 true [] (unit ∷ units))
    of_pieces zero none = absurd (omega (arith, none))
    of_pieces (suc most) enough = omega arith

rows_most : (rows : ℕ) → IsRows rows → rows ≤ 1024
rows_most rows (inl e) = omega (arith, e)
rows_most rows (inr (inl e)) = omega (arith, e)
rows_most rows (inr (inr (inl e))) = omega (arith, e)
rows_most rows (inr (inr (inr e))) = omega (arith, e)

module _ (rows columns : ℕ) (is_rows : IsRows rows) (few : columns ≤ 64) where
  module _ (frame : List (List ℕ)) where
    abbrev of_data : ℕ → FrameSection
    of_data n = data_section (section_of_datagram (frame_of rows columns frame) (mac_for []) (λ i. 0) n)

    abbrev of_column : ℕ → FrameSection
    of_column k = parity_section (section_of_column rows (frame_of rows columns frame) (λ i. 0) k)

    abbrev data_units : List (List ℕ)
    data_units = map section_unit (map of_data (range_with_len 0 (length frame)))

    abbrev column_units : List (List ℕ)
    column_units = map section_unit (map of_column (range_with_len 0 columns))

    parts : sized_units rows columns frame ≡ data_units ++ column_units
    parts = map-append section_unit (map of_data (range_with_len 0 (length frame))) (map of_column (range_with_len 0 columns))

    data_is : (n : ℕ) → length (section_unit (of_data n)) ≡ length (datagram_at frame n) + 16
    data_is n =
        data_size (mac_for [] (datagram_at frame n)) (datagram_at frame n)
        (section_of_datagram (frame_of rows columns frame) (mac_for []) (λ i. 0) n).real_time

    column_is : (k : ℕ) → length (section_unit (of_column k)) ≤ 1040
    column_is k =
        omega (
          arith,
          column_size (section_of_column rows (frame_of rows columns frame) (λ i. 0) k),
          length-take rows (drop (k * rows) (frame_of rows columns frame).parity),
          rows_most rows is_rows,
        )

    some_data : (a n : ℕ) → AreSome (map section_unit (map of_data (range_with_len a n)))
    some_data a zero = tt
    some_data a (suc n) = (omega (arith, data_is a), some_data (a + 1) n)

    some_columns : (a n : ℕ) → AreSome (map section_unit (map of_column (range_with_len a n)))
    some_columns a zero = tt
    some_columns a (suc n) = (omega (arith, column_size (section_of_column rows (frame_of rows columns frame) (λ i. 0) a)), some_columns (a + 1) n)

    all_some : AreSome (sized_units rows columns frame)
    all_some = subst AreSome (sym parts) (some_both data_units column_units (some_data 0 (length frame)) (some_columns 0 columns))

    bytes_most : byte_count (sized_units rows columns frame) ≤ byte_count frame + 16 * length frame + 66560
    bytes_most =
        omega (
          arith,
          ap byte_count parts,
          byte_both data_units column_units,
          all_data of_data frame 0 (λ i less. let at : 0 + i ≡ i = omega arith in ap (λ (n : ℕ). length (section_unit (of_data n))) at ∙ data_is i),
          all_columns of_column 1040 0 columns column_is,
          few,
        )

    -- a burst has at most so many packets
    pub size_most : AreSendable frame → length (joined frame) ≤ 191 * rows → burst_size rows columns frame ≤ 2288
    size_most are fits =
        of_numbers (burst_size rows columns frame) (byte_count (sized_units rows columns frame)) (byte_count frame) (length (joined frame)) (length frame)
        (few_packets 0 0 (sized_units rows columns frame) all_some) bytes_most (joined_least frame are).1 (joined_least frame are).0 fits
      where
        of_numbers : (size bytes count all n : ℕ) → size * 183 ≤ bytes + 182 → bytes ≤ count + 16 * n + 66560 → count ≡ all → 20 * n ≤ all → all ≤ 191 * rows → size ≤ 2288
        of_numbers size bytes count all n a b e d f = omega (arith, a, b, e, d, f, rows_most rows is_rows)

    byte_least : 0 < length frame → 1 ≤ byte_count (sized_units rows columns frame)
    byte_least some =
        omega (
          arith,
          ap byte_count parts,
          byte_both data_units column_units,
          all_data of_data frame 0 (λ i less. let at : 0 + i ≡ i = omega arith in ap (λ (n : ℕ). length (section_unit (of_data n))) at ∙ data_is i),
          some,
        )

    -- and one at least
    pub size_least : 0 < length frame → 1 ≤ burst_size rows columns frame
    size_least some = some_packets (sized_units rows columns frame) (byte_least some)

  -- and bursts together
  pub sizes_most : (from : ℕ) (ends : List ℕ) (list : List (List ℕ)) → AreSendable list → All (λ (b : List (List ℕ)). length (joined b) ≤ 191 * rows) (parts_from from ends list)
      → sum (map (burst_size rows columns) (parts_from from ends list)) ≤ 2288 * length ends
  sizes_most from [] list are fits = omega arith
  sizes_most from (end ∷ ends) list are fits =
      omega (
        arith,
        sum_by-cons (λ (n : ℕ). n) (burst_size rows columns (part_of from end list)) (map (burst_size rows columns) (parts_from end ends list)),
        size_most (part_of from end list) (sendable_part from end list are) (all_head (λ (b : List (List ℕ)). length (joined b) ≤ 191 * rows) (part_of from end list) (parts_from end ends list) fits),
        sizes_most end ends list are (all_tail (λ (b : List (List ℕ)). length (joined b) ≤ 191 * rows) (part_of from end list) (parts_from end ends list) fits),
      )

-- there are no more of them than datagrams
count_from : (from : ℕ) (ends : List ℕ) → AreRising 1 from ends → from + length ends ≤ get_or (from ∷ ends) (length ends) 0
count_from from [] rising = omega arith
count_from from (end ∷ ends) rising = omega (arith, rising.0, count_from end ends rising.1)

pub few_bursts : (ends : List ℕ) (size : ℕ) → AreRising 1 0 ends → end_of ends (length ends) ≤ size → length ends ≤ size
few_bursts ends size rising within = omega (arith, count_from 0 ends rising, within)
