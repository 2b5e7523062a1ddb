-- A unit more of a frame.
use Rattle.std.proofs.Common.{◌≡◌, ℕ, ◌+◌, ◌-◌, ◌*◌, Bool, false, eqb, List, ◌++◌, length, take, drop, ap, ap₂, sym, ◌∙◌, arith}
use Rattle.std.proofs.lemmas.List.{take_at}
use Rattle.section_spec.specs.Mpe.{FecFields, RealTimeFields}
use Rattle.fec_frame_spec.specs.Frame.{datagram_start}
use Rattle.fec_units.specs.Parts.{column_fields, data_time}

-- a unit that stands at the front of a buffer
pub front_unit : (unit rest into : List ℕ) (size : ℕ) → into ≡ unit ++ rest → size ≡ length unit → take size into ≡ unit
front_unit unit rest into size is long = ap (take size) is ∙ take_at unit rest size (sym long)

pub time_is : (ds : List (List ℕ)) (delta n address : ℕ) (boundary : Bool) → boundary ≡ eqb (n + 1) (length ds) → address ≡ datagram_start ds n
    → ◌≡◌ {A = RealTimeFields} (record { delta = delta; table_boundary = boundary; frame_boundary = false; address = address }) (data_time ds delta n)
time_is ds delta n address boundary ends at =
    ap₂ (λ (b : Bool) (a : ℕ). record { delta = delta; table_boundary = b; frame_boundary = false; address = a }) ends at

-- the fields of a column that stands at its place
pub fields_are : (rows columns padding : ℕ) (parity : List ℕ) (delta k start : ℕ) → start ≡ k * rows
    → ◌≡◌ {A = FecFields} (record {
      padding = padding;
      number = k;
      last = columns - 1;
      real_time = record { delta = delta; table_boundary = eqb (k + 1) columns; frame_boundary = eqb (k + 1) columns; address = start };
      column = take (start + rows - start) (drop start parity);
    }) (column_fields rows columns padding parity delta k)
fields_are rows columns padding parity delta k start at =
    let width : start + rows - start ≡ rows = omega arith in
    ap₂ (λ (w s : ℕ). record {
      padding = padding;
      number = k;
      last = columns - 1;
      real_time = record { delta = delta; table_boundary = eqb (k + 1) columns; frame_boundary = eqb (k + 1) columns; address = s };
      column = take w (drop s parity);
    }) width at
