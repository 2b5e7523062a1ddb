-- The units of a burst, in steps: like those of a frame, with a delta_t for each.
use Rattle.std.specs.Prelude.{ℕ, List, take, length, map, slice_index}
use Rattle.std.specs.List.{range_with_len}
use Rattle.section_spec.specs.Mpe.{fec_bytes}
use Rattle.ip_datagram.specs.Held.{AreEndsFrom}
use Rattle.unit_stream.specs.Packers.{AreRising}
use Rattle.fec_units.specs.Parts.{data_unit, column_fields}
use Rattle.fec_units.specs.Packets.{after_sections, column_sizes, data_sizes, first_section}
use Rattle.fec_units.specs.declared.packets.NextSection.{NextSection}

-- units one after another in a buffer: their bytes, where each ends, and the room for bytes and for units
pub record UnitRoom : Type 0 where
  pub bytes : List ℕ
  pub ends : List ℕ
  pub bytes_most : ℕ
  pub units_most : ℕ

-- the bytes are those of the units that end at these places, and each unit has one
pub record AreHeld (bytes ends : List ℕ) : Type 0 where
  pub ends_are : AreEndsFrom 0 (length bytes) ends
  pub rising : AreRising 1 0 ends

-- delta_t of the packet in which a section begins
abbrev pub delta_at : List ℕ → NextSection → ℕ
delta_at deltas next = slice_index deltas next.packet

-- where section n of datagrams begins, and where column n after a place
abbrev pub before_datagram : List (List ℕ) → ℕ → NextSection
before_datagram datagrams n = after_sections first_section (data_sizes (take n datagrams))

abbrev pub before_column : NextSection → ℕ → ℕ → NextSection
before_column next rows n = after_sections next (column_sizes rows n)

-- the units of the first datagrams, and of the first columns after a place
abbrev pub timed_data : List ℕ → List (List ℕ) → List ℕ → ℕ → List (List ℕ)
timed_data unicast datagrams deltas n =
    map (λ i. data_unit unicast datagrams (delta_at deltas (before_datagram datagrams i)) i) (range_with_len 0 n)

abbrev pub timed_columns : ℕ → ℕ → ℕ → List ℕ → List ℕ → NextSection → ℕ → List (List ℕ)
timed_columns rows columns padding parity deltas next n =
    map (λ k. fec_bytes (column_fields rows columns padding parity (delta_at deltas (before_column next rows k)) k)) (range_with_len 0 n)
