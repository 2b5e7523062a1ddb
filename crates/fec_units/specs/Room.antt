-- The room that a burst buffer has.
use Rattle.std.specs.Prelude.{◌≡◌, ℕ, ◌+◌, ◌*◌, ◌/◌, ◌≤◌, List, length}
use Rattle.section_spec.specs.Mpe.{IsRows}
use Rattle.fec_units.specs.Timed.{UnitRoom}

-- how many datagrams a burst may have: each has 20 bytes or more
abbrev pub datagrams_most : ℕ → ℕ
datagrams_most rows = (191 * rows) / 20

-- room for the units of any burst, and for one column, one RS data table and one section
pub record HasRoom (rows columns : ℕ) (units : UnitRoom) (column parity section : List ℕ) : Type 0 where
  pub rows_are : IsRows rows
  pub columns_most : columns ≤ 64
  pub bytes_most : units.bytes_most ≡ 191 * rows + 16 * datagrams_most rows + columns * (rows + 16)
  pub units_most : units.units_most ≡ datagrams_most rows + columns
  pub column_size : length column ≡ rows
  pub parity_size : length parity ≡ 64 * rows
  pub section_size : length section ≡ 4096
