-- The frames that a sender makes of datagrams, and their sections (EN 301 192 clause 9).
use Rattle.std.specs.Prelude.{ℕ, ◌+◌, ◌-◌, ◌*◌, ◌/◌, Bool, true, false, ◌&&◌, List, [], ◌∷◌, ◌++◌, length, map, fold, flat_map, take, drop, replicate, slice_index, ◌==◌, nat_le, if◌then◌else◌, Option, Some, None, unwrap_or}
use Rattle.std.specs.List.{range_with_len}
use Rattle.wire_spec.specs.Lists.{joined}
use Rattle.fec_spec.specs.Table.{table_row}
use Rattle.section_spec.specs.Mpe.{MpeFields, FecFields, mpe_to_write, mpe_bytes, fec_bytes}
use Rattle.fec_frame_spec.specs.Sections.{FrameSection, data_section, parity_section}
use Rattle.fec_frame_spec.specs.Corrected.{codeword_with}
use Rattle.fec_frame_spec.specs.Frame.{FrameFields, data_table, datagram_start, datagram_at}

-- padding_columns: all columns but those that hold so many bytes (EN 301 192 clause 9)
abbrev pub padding_of : ℕ → ℕ → ℕ
padding_of rows used = 191 - (used + rows - 1) / rows

-- the 64 bytes that make 191 bytes a codeword (EN 301 192 clause 9)
unfoldable pub row_parity : List ℕ → List ℕ
row_parity row = drop 191 (unwrap_or (codeword_with (map Some row ++ replicate 64 None)) [])

-- the RS data table of 64 columns, column by column (EN 301 192 clause 9)
unfoldable pub parity_table : ℕ → List ℕ → List ℕ
parity_table rows table =
    flat_map (λ k. map (λ r. slice_index (row_parity (table_row 191 rows table r)) k) (range_with_len 0 rows)) (range_with_len 0 64)

-- the frame that a sender makes of datagrams, of whose RS data table so many columns are sent (EN 301 192 clause 9)
abbrev pub frame_of : ℕ → ℕ → List (List ℕ) → FrameFields
frame_of rows columns datagrams = record {
  datagrams = datagrams;
  padding = padding_of rows (length (joined datagrams));
  parity = parity_table rows (data_table rows datagrams);
  columns = columns;
}

-- Its sections. delta i is delta_t of section i, and mac the address of the receivers that a datagram is for.

-- the section of datagram n, at its address, with table_boundary on the last one alone (EN 301 192 clause 9)
abbrev pub section_of_datagram : FrameFields → (List ℕ → List ℕ) → (ℕ → ℕ) → ℕ → MpeFields
section_of_datagram frame mac delta n =
    mpe_to_write (mac (datagram_at frame.datagrams n))
    (Some (record {
      delta = delta n;
      table_boundary = n + 1 == length frame.datagrams;
      frame_boundary = false;
      address = datagram_start frame.datagrams n;
    }))
    (datagram_at frame.datagrams n)

-- the address is that of the column's first byte in the RS data table, and table_boundary stands on the last section of the table (EN 301 192 clause 9)
abbrev pub section_of_column : ℕ → FrameFields → (ℕ → ℕ) → ℕ → FecFields
section_of_column rows frame delta k = record {
  padding = frame.padding;
  number = k;
  last = frame.columns - 1;
  real_time = record {
    delta = delta (length frame.datagrams + k);
    table_boundary = k + 1 == frame.columns;
    frame_boundary = k + 1 == frame.columns;
    address = k * rows;
  };
  column = take rows (drop (k * rows) frame.parity);
}

-- the sections of a frame that is sent: one of each datagram, in order, and then one of each column (EN 301 192 clause 9)
abbrev pub sections_to_send : ℕ → FrameFields → (List ℕ → List ℕ) → (ℕ → ℕ) → List FrameSection
sections_to_send rows frame mac delta =
    map (λ n. data_section (section_of_datagram frame mac delta n)) (range_with_len 0 (length frame.datagrams))
    ++ map (λ k. parity_section (section_of_column rows frame delta k)) (range_with_len 0 frame.columns)

-- a section as a unit (EN 301 192 clauses 7, 9)
abbrev pub section_unit : FrameSection → List ℕ
section_unit (data_section m) = mpe_bytes m
section_unit (parity_section f) = fec_bytes f

-- Which datagrams share a frame.

-- datagrams that fit the application data table; Profile: in time slicing the window bounds them too
abbrev pub fits_table : ℕ → List (List ℕ) → Bool
fits_table rows datagrams = nat_le (length (joined datagrams)) (191 * rows)

-- a datagram after those of some frames joins the last of them, where it fits, and begins the next one otherwise
abbrev pub with_datagram : (List (List ℕ) → Bool) → List (List (List ℕ)) → List ℕ → List (List (List ℕ))
with_datagram fits [] d = (d ∷ []) ∷ []
with_datagram fits (last ∷ []) d = if fits (last ++ d ∷ []) then (last ++ d ∷ []) ∷ [] else last ∷ (d ∷ []) ∷ []
with_datagram fits (frame ∷ next ∷ others) d = frame ∷ with_datagram fits (next ∷ others) d

-- the datagrams of each frame
abbrev pub datagrams_in_frames : (List (List ℕ) → Bool) → List (List ℕ) → List (List (List ℕ))
datagrams_in_frames fits datagrams = fold (with_datagram fits) [] datagrams
