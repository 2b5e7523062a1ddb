-- The units of a burst: their sizes, the packets in which they begin, and their delta_t.
use Rattle.std.proofs.Common.{◌≡◌, ℕ, zero, suc, ◌+◌, ◌*◌, ◌<◌, ◌≤◌, List, [], ◌∷◌, ◌++◌, length, get_or, map, take, drop, replicate, slice_index, Some, refl, ap, ap₂, sym, subst, ◌∙◌, arith, append_assoc, length-drop}
use Rattle.std.specs.Int.{w32, to_be_bytes}
use Rattle.std.specs.List.{range_with_len}
use Rattle.std.proofs.lemmas.List.{length-append, length-replicate, map-append, take-append-le, length-take-le, take_more}
use Rattle.std.proofs.Math.Seq.{take-append-add}
use Rattle.std.proofs.lemmas.List.FromFn.{map-range_with_len_more}
use Rattle.wire_spec.specs.Lists.{joined}
use Rattle.section_spec.specs.Mpe.{FecFields, RealTimeFields, real_time_number, mpe_to_write, mpe_body, mpe_bytes, fec_body, fec_bytes}
use Rattle.section_codec.proofs.Written.{length-section_bytes}
use Rattle.unit_stream.proofs.Left.{AreLong}
use Rattle.fec_frame_spec.specs.Frame.{datagram_at, data_table}
use Rattle.fec_frame_spec.specs.Sections.{data_section, parity_section}
use Rattle.fec_frame_spec.specs.Sender.{padding_of, parity_table, frame_of, section_of_datagram, section_of_column, section_unit}
use Rattle.stream_spec.specs.Units.{mac_for, units_with_delta, sized_units, burst_size, packet_of_section}
use Rattle.fec_sent_law.proofs.Tables.{length-parity_table}
use Rattle.fec_units.specs.declared.packets.NextSection.{NextSection}
use Rattle.fec_units.specs.Bursts.{AreFirst, units_by_packet}
use Rattle.fec_units.specs.Packets.{after_section, after_sections, first_section, packets_before, data_sizes, column_sizes}
use Rattle.fec_units.specs.Parts.{column_fields, data_time, data_unit, part_of}
use Rattle.fec_units.specs.Timed.{before_column, before_datagram, delta_at, timed_columns, timed_data}
use Rattle.fec_units.proofs.Parts.{part_more, part_none}
use Rattle.fec_units.proofs.Counted.{sizes_of, AreSome, first_in_room, packet_below, packet_is, count_is, after_more}

-- Sizes of sections.

pub data_size : (mac datagram : List ℕ) (t : RealTimeFields) → length (mpe_bytes (mpe_to_write mac (Some t) datagram)) ≡ length datagram + 16
data_size mac datagram t = omega (arith, length-section_bytes 0x3E 0xB0 (mpe_body (mpe_to_write mac (Some t) datagram)), nine (length datagram))
  where
    nine : (n : ℕ) → suc (suc (suc (suc (suc (suc (suc (suc (suc n)))))))) ≡ n + 9
    nine n = omega arith

pub column_size : (f : FecFields) → length (fec_bytes f) ≡ length f.column + 16
column_size f = omega (arith, length-section_bytes 0x78 0xB0 (fec_body f), five (length (to_be_bytes w32 (real_time_number f.real_time) ++ f.column)), four, length-append (to_be_bytes w32 (real_time_number f.real_time)) f.column)
  where
    five : (n : ℕ) → suc (suc (suc (suc (suc n)))) ≡ n + 5
    five n = omega arith

    four : length (to_be_bytes w32 (real_time_number f.real_time)) ≡ 4
    four = refl

-- a column of an RS data table
pub width : (rows k : ℕ) (parity : List ℕ) → k < 64 → length parity ≡ 64 * rows → length (take rows (drop (k * rows) parity)) ≡ rows
width rows k parity less size =
    let part : (k + 1) * rows ≤ 64 * rows = grind (arith, less) in
    let more : (k + 1) * rows ≡ k * rows + rows = omega arith in
    length-take-le rows (drop (k * rows) parity) (omega (arith, length-drop (k * rows) parity, size, part, more))

-- Lists by places.

map_same : {A : Type 0} (f g : ℕ → A) (a n : ℕ) → ((i : ℕ) → i < n → f (a + i) ≡ g (a + i)) → map f (range_with_len a n) ≡ map g (range_with_len a n)
map_same f g a zero same = refl
map_same f g a (suc n) same =
    let here : a + 0 ≡ a = omega arith in
    ap₂ (λ x xs. x ∷ xs) (subst (λ (k : ℕ). f k ≡ g k) here (same 0 (omega arith)))
    (map_same f g (a + 1) n (λ i less. let next : a + suc i ≡ a + 1 + i = omega arith in subst (λ (k : ℕ). f k ≡ g k) next (same (suc i) (omega (arith, less)))))

data_by_place : (f : ℕ → ℕ) (ds : List (List ℕ)) (a : ℕ) → ((i : ℕ) → i < length ds → f (a + i) ≡ length (get_or ds i []) + 16)
    → map f (range_with_len a (length ds)) ≡ data_sizes ds
data_by_place f [] a each = refl
data_by_place f (d ∷ ds) a each =
    let here : a ≡ a + 0 = omega arith in
    ap₂ (λ (x : ℕ) (xs : List ℕ). x ∷ xs) (ap f here ∙ each 0 (omega arith))
    (data_by_place f ds (a + 1) (λ i less. let next : a + 1 + i ≡ a + suc i = omega arith in ap f next ∙ each (suc i) (omega (arith, less))))

columns_by_place : (f : ℕ → ℕ) (size a n : ℕ) → ((i : ℕ) → i < n → f (a + i) ≡ size) → map f (range_with_len a n) ≡ replicate n size
columns_by_place f size a zero each = refl
columns_by_place f size a (suc n) each =
    let here : a ≡ a + 0 = omega arith in
    ap₂ (λ (x : ℕ) (xs : List ℕ). x ∷ xs) (ap f here ∙ each 0 (omega arith))
    (columns_by_place f size (a + 1) n (λ i less. let next : a + 1 + i ≡ a + suc i = omega arith in ap f next ∙ each (suc i) (omega (arith, less))))

-- the sizes of units that are made by place
sizes_by_place : (f : ℕ → List ℕ) (xs : List ℕ) → sizes_of (map f xs) ≡ map (λ (n : ℕ). length (f n)) xs
sizes_by_place f [] = refl
sizes_by_place f (x ∷ xs) = ap (λ (l : List ℕ). length (f x) ∷ l) (sizes_by_place f xs)

-- The units of a frame, by place.

module _ (rows columns : ℕ) (unicast : List ℕ) (ds : List (List ℕ)) (delta : ℕ → ℕ) where
  abbrev data_of : ℕ → List ℕ
  data_of n = data_unit unicast ds (delta n) n

  abbrev column_of : ℕ → List ℕ
  column_of k = fec_bytes (column_fields rows columns (padding_of rows (length (joined ds))) (parity_table rows (data_table rows ds)) (delta (length ds + k)) k)

  data_same : (xs : List ℕ) → map section_unit (map (λ (n : ℕ). data_section (section_of_datagram (frame_of rows columns ds) (mac_for unicast) delta n)) xs) ≡ map data_of xs
  data_same [] = refl
  data_same (x ∷ xs) = ap (λ (us : List (List ℕ)). data_of x ∷ us) (data_same xs)

  columns_same : (xs : List ℕ) → map section_unit (map (λ (k : ℕ). parity_section (section_of_column rows (frame_of rows columns ds) delta k)) xs) ≡ map column_of xs
  columns_same [] = refl
  columns_same (x ∷ xs) = ap (λ (us : List (List ℕ)). column_of x ∷ us) (columns_same xs)

  units_by_place : units_with_delta rows columns unicast delta ds ≡ map data_of (range_with_len 0 (length ds)) ++ map column_of (range_with_len 0 columns)
  units_by_place =
      map-append section_unit
      (map (λ (n : ℕ). data_section (section_of_datagram (frame_of rows columns ds) (mac_for unicast) delta n)) (range_with_len 0 (length ds)))
      (map (λ (k : ℕ). parity_section (section_of_column rows (frame_of rows columns ds) delta k)) (range_with_len 0 columns))
      ∙ ap₂ (λ (x y : List (List ℕ)). x ++ y) (data_same (range_with_len 0 (length ds))) (columns_same (range_with_len 0 columns))

  data_sizes_are : sizes_of (map data_of (range_with_len 0 (length ds))) ≡ data_sizes ds
  data_sizes_are =
      sizes_by_place data_of (range_with_len 0 (length ds))
      ∙ data_by_place (λ (n : ℕ). length (data_of n)) ds 0 (λ i less.
      let at : 0 + i ≡ i = omega arith in
      ap (λ (n : ℕ). length (data_of n)) at
      ∙ data_size (mac_for unicast (datagram_at ds i)) (datagram_at ds i) (section_of_datagram (frame_of rows columns ds) (mac_for unicast) delta i).real_time)

  column_sizes_are : columns ≤ 64 → sizes_of (map column_of (range_with_len 0 columns)) ≡ column_sizes rows columns
  column_sizes_are few =
      sizes_by_place column_of (range_with_len 0 columns)
      ∙ columns_by_place (λ (k : ℕ). length (column_of k)) (rows + 16) 0 columns (λ i less.
      let at : 0 + i ≡ i = omega arith in
      ap (λ (n : ℕ). length (column_of n)) at
      ∙ column_size (section_of_column rows (frame_of rows columns ds) delta i)
      ∙ ap (λ (n : ℕ). n + 16) (width rows i (parity_table rows (data_table rows ds)) (omega (arith, less, few)) (length-parity_table rows (data_table rows ds))))

  -- the sizes of all sections
  pub unit_sizes : columns ≤ 64 → sizes_of (units_with_delta rows columns unicast delta ds) ≡ data_sizes ds ++ column_sizes rows columns
  unit_sizes few =
      ap sizes_of units_by_place
      ∙ map-append (λ (u : List ℕ). length u) (map data_of (range_with_len 0 (length ds))) (map column_of (range_with_len 0 columns))
      ∙ ap₂ (λ (x y : List ℕ). x ++ y) data_sizes_are (column_sizes_are few)

pub some_data : (ds : List (List ℕ)) (more : List ℕ) → AreSome more → AreSome (data_sizes ds ++ more)
some_data [] more some = some
some_data (d ∷ ds) more some = (omega arith, some_data ds more some)

pub some_columns : (rows columns : ℕ) → AreSome (column_sizes rows columns)
some_columns rows zero = tt
some_columns rows (suc columns) = (omega arith, some_columns rows columns)

some_units : (units : List (List ℕ)) → AreSome (sizes_of units) → AreLong 1 units
some_units [] some = tt
some_units (u ∷ us) some = (some.0, some_units us some.1)

length-data_sizes : (ds : List (List ℕ)) → length (data_sizes ds) ≡ length ds
length-data_sizes [] = refl
length-data_sizes (d ∷ ds) = ap suc (length-data_sizes ds)

take-data_sizes : (n : ℕ) (ds : List (List ℕ)) → take n (data_sizes ds) ≡ data_sizes (take n ds)
take-data_sizes zero ds = refl
take-data_sizes (suc n) [] = refl
take-data_sizes (suc n) (d ∷ ds) = ap (λ (l : List ℕ). (length d + 16) ∷ l) (take-data_sizes n ds)

take-replicate : (k n size : ℕ) → k ≤ n → take k (replicate n size) ≡ replicate k size
take-replicate zero n size le = refl
take-replicate (suc k) zero size le = absurd (omega (arith, le))
take-replicate (suc k) (suc n) size le = ap (λ (l : List ℕ). size ∷ l) (take-replicate k n size (omega (arith, le)))

-- The packets in which the sections of a burst begin.

module _ (rows columns : ℕ) (ds : List (List ℕ)) (few : columns ≤ 64) where
  sizes : List ℕ
  sizes = data_sizes ds ++ column_sizes rows columns

  sizes_are : sizes_of (sized_units rows columns ds) ≡ data_sizes ds ++ column_sizes rows columns
  sizes_are = unit_sizes rows columns [] ds (λ (i : ℕ). 0) few

  some_sizes : AreSome (data_sizes ds ++ column_sizes rows columns)
  some_sizes = some_data ds (column_sizes rows columns) (some_columns rows columns)

  long : AreLong 1 (sized_units rows columns ds)
  long = some_units (sized_units rows columns ds) (subst AreSome (sym sizes_are) some_sizes)

  -- so many packets has the burst
  pub burst_size_is : burst_size rows columns ds ≡ packets_before (after_sections (after_sections first_section (data_sizes ds)) (column_sizes rows columns))
  burst_size_is =
      count_is 0 0 (sized_units rows columns ds) long
      ∙ ap (λ (s : List ℕ). packets_before (after_sections first_section s)) sizes_are
      ∙ ap packets_before (after_more first_section (data_sizes ds) (column_sizes rows columns))

  count_sizes : length (data_sizes ds ++ column_sizes rows columns) ≡ length ds + columns
  count_sizes = omega (arith, length-append (data_sizes ds) (column_sizes rows columns), length-data_sizes ds, length-replicate columns (rows + 16))

  count_units : length (sized_units rows columns ds) ≡ length ds + columns
  count_units = sym (counted (sized_units rows columns ds)) ∙ ap (λ (s : List ℕ). length s) sizes_are ∙ count_sizes
    where
      counted : (units : List (List ℕ)) → length (sizes_of units) ≡ length units
      counted [] = refl
      counted (u ∷ us) = ap suc (counted us)

  packet_is_at : (i : ℕ) → i < length ds + columns → packet_of_section rows columns ds i ≡ (after_sections first_section (take i (data_sizes ds ++ column_sizes rows columns))).packet
  packet_is_at i less =
      packet_is (sized_units rows columns ds) i long (omega (arith, less, count_units))
      ∙ ap (λ (s : List ℕ). (after_sections first_section (take i s)).packet) sizes_are

  pub packet_within : (i : ℕ) → i < length ds + columns → packet_of_section rows columns ds i < burst_size rows columns ds
  packet_within i less =
      let below = packet_below first_section (data_sizes ds ++ column_sizes rows columns) i first_in_room some_sizes (omega (arith, less, count_sizes)) in
      omega (arith, packet_is_at i less, below, burst_size_is, ap packets_before (after_more first_section (data_sizes ds) (column_sizes rows columns)))

  packet_of_datagram : (i : ℕ) → i < length ds → packet_of_section rows columns ds i ≡ (before_datagram ds i).packet
  packet_of_datagram i less =
      packet_is_at i (omega (arith, less))
      ∙ ap (λ (s : List ℕ). (after_sections first_section s).packet)
      (take-append-le i (data_sizes ds) (column_sizes rows columns) (omega (arith, less, length-data_sizes ds)) ∙ take-data_sizes i ds)

  packet_of_column : (k : ℕ) → k < columns → packet_of_section rows columns ds (length ds + k) ≡ (before_column (after_sections first_section (data_sizes ds)) rows k).packet
  packet_of_column k less =
      packet_is_at (length ds + k) (omega (arith, less))
      ∙ ap (λ (s : List ℕ). (after_sections first_section s).packet)
      (ap (λ (n : ℕ). take (n + k) (data_sizes ds ++ column_sizes rows columns)) (sym (length-data_sizes ds))
      ∙ take-append-add (data_sizes ds) (column_sizes rows columns) k
      ∙ ap (λ (s : List ℕ). data_sizes ds ++ s) (take-replicate k columns (rows + 16) (omega (arith, less))))
      ∙ ap (λ (n : NextSection). n.packet) (after_more first_section (data_sizes ds) (column_sizes rows k))

  -- The units of a burst are those of its datagrams, and then those of its columns.

  module _ (unicast deltas : List ℕ) where
    pub burst_units : (count padding : ℕ) (parity : List ℕ) (next : NextSection) → length ds ≡ count → padding ≡ padding_of rows (length (joined ds))
        → parity ≡ parity_table rows (data_table rows ds) → next ≡ after_sections first_section (data_sizes ds)
        → timed_data unicast ds deltas count ++ timed_columns rows columns padding parity deltas next columns
        ≡ units_by_packet rows columns unicast (λ (n : ℕ). slice_index deltas n) ds
    burst_units count padding parity next size pads is place =
        ap₂ (λ (x y : List (List ℕ)). x ++ y)
        (ap (timed_data unicast ds deltas) (sym size)
        ∙ map_same (λ (i : ℕ). data_unit unicast ds (delta_at deltas (before_datagram ds i)) i) (data_of rows columns unicast ds delta) 0 (length ds)
        (λ i less. let at : 0 + i ≡ i = omega arith in
        ap (λ (n : ℕ). data_unit unicast ds (delta_at deltas (before_datagram ds n)) n) at
        ∙ ap (λ (p : ℕ). data_unit unicast ds (slice_index deltas p) i) (sym (packet_of_datagram i less))
        ∙ sym (ap (data_of rows columns unicast ds delta) at)))
        (ap₂ (λ (p : ℕ) (t : List ℕ). timed_columns rows columns p t deltas next columns) pads is
        ∙ ap (λ (n : NextSection). timed_columns rows columns (padding_of rows (length (joined ds))) (parity_table rows (data_table rows ds)) deltas n columns) place
        ∙ map_same (λ (k : ℕ). fec_bytes (fields (slice_index deltas (before_column (after_sections first_section (data_sizes ds)) rows k).packet) k))
        (column_of rows columns unicast ds delta) 0 columns
        (λ k less. let at : 0 + k ≡ k = omega arith in
        ap (λ (n : ℕ). fec_bytes (fields (slice_index deltas (before_column (after_sections first_section (data_sizes ds)) rows n).packet) n)) at
        ∙ ap (λ (p : ℕ). fec_bytes (fields (slice_index deltas p) k)) (sym (packet_of_column k less))
        ∙ sym (ap (column_of rows columns unicast ds delta) at)))
        ∙ sym (units_by_place rows columns unicast ds delta)
      where
        delta : ℕ → ℕ
        delta i = slice_index deltas (packet_of_section rows columns ds i)

        fields : ℕ → ℕ → FecFields
        fields d k = column_fields rows columns (padding_of rows (length (joined ds))) (parity_table rows (data_table rows ds)) d k

    -- whatever gives delta_t of the packets of the burst
    pub by_packet : (delta : ℕ → ℕ) → AreFirst (burst_size rows columns ds) delta deltas
        → units_by_packet rows columns unicast (λ (n : ℕ). slice_index deltas n) ds ≡ units_by_packet rows columns unicast delta ds
    by_packet delta first =
        units_by_place rows columns unicast ds listed
        ∙ ap₂ (λ (x y : List (List ℕ)). x ++ y)
        (map_same (data_of rows columns unicast ds listed) (data_of rows columns unicast ds given) 0 (length ds)
        (λ i less. ap (λ (d : ℕ). data_unit unicast ds d (0 + i)) (first (packet_of_section rows columns ds (0 + i)) (packet_within (0 + i) (omega (arith, less))))))
        (map_same (column_of rows columns unicast ds listed) (column_of rows columns unicast ds given) 0 columns
        (λ k less. ap (λ (d : ℕ). fec_bytes (column_fields rows columns (padding_of rows (length (joined ds))) (parity_table rows (data_table rows ds)) d (0 + k)))
        (first (packet_of_section rows columns ds (length ds + (0 + k))) (packet_within (length ds + (0 + k)) (omega (arith, less))))))
        ∙ sym (units_by_place rows columns unicast ds given)
      where
        listed : ℕ → ℕ
        listed i = slice_index deltas (packet_of_section rows columns ds i)

        given : ℕ → ℕ
        given i = delta (packet_of_section rows columns ds i)

-- One section more.

pub column_after : (next : NextSection) (rows n : ℕ) → after_sections next (column_sizes rows (n + 1)) ≡ after_section (after_sections next (column_sizes rows n)) (rows + 16)
column_after next rows zero = refl
column_after next rows (suc n) =
    let one_more : suc n + 1 ≡ suc (n + 1) = omega arith in
    ap (λ (k : ℕ). after_sections next (column_sizes rows k)) one_more ∙ column_after (after_section next (rows + 16)) rows n

pub data_after : (next : NextSection) (ds : List (List ℕ)) (d : List ℕ) → after_sections next (data_sizes (ds ++ d ∷ [])) ≡ after_section (after_sections next (data_sizes ds)) (length d + 16)
data_after next [] d = refl
data_after next (x ∷ ds) d = data_after (after_section next (length x + 16)) ds d

-- the sections of a part of a list
pub part_after : (next : NextSection) (from end : ℕ) (list : List (List ℕ)) → from ≤ end → end < length list
    → after_sections next (data_sizes (part_of from (end + 1) list)) ≡ after_section (after_sections next (data_sizes (part_of from end list))) (length (get_or list end []) + 16)
part_after next from end list le within =
    ap (λ (ds : List (List ℕ)). after_sections next (data_sizes ds)) (part_more from end list le within) ∙ data_after next (part_of from end list) (get_or list end [])

pub none_after : (next : NextSection) (from : ℕ) (list : List (List ℕ)) → after_sections next (data_sizes (part_of from from list)) ≡ next
none_after next from list = ap (λ (ds : List (List ℕ)). after_sections next (data_sizes ds)) (part_none from list)

-- those of the first datagrams
pub before_more : (ds : List (List ℕ)) (n : ℕ) → n < length ds → before_datagram ds (n + 1) ≡ after_section (before_datagram ds n) (length (get_or ds n []) + 16)
before_more ds n within =
    ap (λ (l : List (List ℕ)). after_sections first_section (data_sizes l)) (take_more ds n [] within) ∙ data_after first_section (take n ds) (get_or ds n [])

-- A unit more of a burst.

pub timed_data_more : (unicast : List ℕ) (ds : List (List ℕ)) (deltas : List ℕ) (n : ℕ) (before units new : List (List ℕ)) (mac : List ℕ) (t : RealTimeFields) (d : List ℕ)
    → units ≡ before ++ timed_data unicast ds deltas n → new ≡ units ++ mpe_bytes (mpe_to_write mac (Some t) d) ∷ []
    → mac ≡ mac_for unicast d → datagram_at ds n ≡ d → t ≡ data_time ds (delta_at deltas (before_datagram ds n)) n
    → new ≡ before ++ timed_data unicast ds deltas (n + 1)
timed_data_more unicast ds deltas n before units new mac t d so_far put mac_is datagram_is time =
    let e : 0 + n ≡ n = omega arith in
    put
    ∙ ap₂ (λ (us : List (List ℕ)) (u : List ℕ). us ++ u ∷ []) so_far unit_is
    ∙ append_assoc before (timed_data unicast ds deltas n) (unit n ∷ [])
    ∙ ap (λ (us : List (List ℕ)). before ++ us) (sym (map-range_with_len_more unit 0 n n e))
  where
    unit : ℕ → List ℕ
    unit i = data_unit unicast ds (delta_at deltas (before_datagram ds i)) i

    unit_is : mpe_bytes (mpe_to_write mac (Some t) d) ≡ data_unit unicast ds (delta_at deltas (before_datagram ds n)) n
    unit_is =
        ap₂ (λ (m : List ℕ) (r : RealTimeFields). mpe_bytes (mpe_to_write m (Some r) d)) mac_is time
        ∙ ap (λ (x : List ℕ). mpe_bytes (mpe_to_write (mac_for unicast x) (Some (data_time ds (delta_at deltas (before_datagram ds n)) n)) x)) (sym datagram_is)

pub timed_column_more : (rows columns padding : ℕ) (parity deltas : List ℕ) (next : NextSection) (n : ℕ) (before units new : List (List ℕ)) (f : FecFields)
    → units ≡ before ++ timed_columns rows columns padding parity deltas next n → new ≡ units ++ fec_bytes f ∷ []
    → f ≡ column_fields rows columns padding parity (delta_at deltas (before_column next rows n)) n
    → new ≡ before ++ timed_columns rows columns padding parity deltas next (n + 1)
timed_column_more rows columns padding parity deltas next n before units new f so_far put is =
    let e : 0 + n ≡ n = omega arith in
    put
    ∙ ap₂ (λ (us : List (List ℕ)) (x : FecFields). us ++ fec_bytes x ∷ []) so_far is
    ∙ append_assoc before (timed_columns rows columns padding parity deltas next n) (unit n ∷ [])
    ∙ ap (λ (us : List (List ℕ)). before ++ us) (sym (map-range_with_len_more unit 0 n n e))
  where
    unit : ℕ → List ℕ
    unit k = fec_bytes (column_fields rows columns padding parity (delta_at deltas (before_column next rows k)) k)

pub burst_written : (rows r columns : ℕ) (unicast deltas : List ℕ) (ds : List (List ℕ)) (count padding : ℕ) (parity : List ℕ) (next : NextSection) (before put new : List (List ℕ))
    → columns ≤ 64 → r ≡ rows → length ds ≡ count → padding ≡ padding_of rows (length (joined ds)) → parity ≡ parity_table r (data_table r ds)
    → next ≡ after_sections first_section (data_sizes ds) → put ≡ before ++ timed_data unicast ds deltas count
    → new ≡ put ++ timed_columns r columns padding parity deltas next columns
    → new ≡ before ++ units_by_packet rows columns unicast (λ (n : ℕ). slice_index deltas n) ds
burst_written rows r columns unicast deltas ds count padding parity next before put new few same size pads is place so_far last =
    last
    ∙ ap₂ (λ (us : List (List ℕ)) (k : ℕ). us ++ timed_columns k columns padding parity deltas next columns) so_far same
    ∙ append_assoc before (timed_data unicast ds deltas count) (timed_columns rows columns padding parity deltas next columns)
    ∙ ap (λ (us : List (List ℕ)). before ++ us)
    (burst_units rows columns ds few unicast deltas count padding parity next size pads (is ∙ ap (λ (k : ℕ). parity_table k (data_table k ds)) same) place)
