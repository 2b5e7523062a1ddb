-- What a frame is made of, in steps: some of a list's datagrams, their bytes in columns, and the fields of a column's section.
use Rattle.std.specs.Prelude.{◌≡◌, ℕ, zero, suc, ◌+◌, ◌-◌, ◌*◌, ◌<◌, ◌≤◌, List, [], ◌∷◌, length, take, drop, slice_index_or, ◌==◌, false, Some}
use Rattle.wire_spec.specs.Lists.{joined}
use Rattle.section_spec.specs.Mpe.{FecFields, RealTimeFields, mpe_bytes, mpe_to_write}
use Rattle.fec_frame_spec.specs.Frame.{datagram_at, datagram_start}
use Rattle.stream_spec.specs.Units.{mac_for}
use Rattle.fec_units.specs.declared.columns.Place.{Place}

-- the datagrams of a list from one place to another
abbrev pub part_of : ℕ → ℕ → List (List ℕ) → List (List ℕ)
part_of from end list = take (end - from) (drop from list)

-- the first n bytes, and zeros where there are fewer
unfoldable pub padded : ℕ → List ℕ → List ℕ
padded zero bytes = []
padded (suc n) [] = 0 ∷ padded n []
padded (suc n) (b ∷ bytes) = b ∷ padded n bytes

-- the bytes from a byte of a datagram to the end of those before a place of the list
abbrev pub bytes_left : List (List ℕ) → ℕ → Place → List ℕ
bytes_left list end at = drop at.out (joined (part_of at.datagram end list))

-- the byte is one of a datagram before the place, or none is left
pub record IsWithin (list : List (List ℕ)) (end : ℕ) (at : Place) : Type 0 where
  pub end_most : end ≤ length list
  pub most : at.datagram ≤ end
  pub out : at.datagram < end → at.out < length (slice_index_or list at.datagram [])
  pub none : at.datagram ≡ end → at.out ≡ 0

-- real_time_parameters of datagram n of a frame without time slicing
abbrev pub data_time : List (List ℕ) → ℕ → ℕ → RealTimeFields
data_time datagrams delta n = record {
  delta = delta;
  table_boundary = n + 1 == length datagrams;
  frame_boundary = false;
  address = datagram_start datagrams n;
}

-- the unit of datagram n
abbrev pub data_unit : List ℕ → List (List ℕ) → ℕ → ℕ → List ℕ
data_unit unicast datagrams delta n =
    mpe_bytes (mpe_to_write (mac_for unicast (datagram_at datagrams n)) (Some (data_time datagrams delta n)) (datagram_at datagrams n))

-- the fields of column k of the RS data table
abbrev pub column_fields : ℕ → ℕ → ℕ → List ℕ → ℕ → ℕ → FecFields
column_fields rows columns padding parity delta k = record {
  padding = padding;
  number = k;
  last = columns - 1;
  real_time = record { delta = delta; table_boundary = k + 1 == columns; frame_boundary = k + 1 == columns; address = k * rows };
  column = take rows (drop (k * rows) parity);
}
