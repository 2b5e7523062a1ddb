-- An encoder of a frame (EN 301 192 clause 9): the columns that it was given, and the parity that it keeps of each row.
use Rattle.std.specs.Prelude.{ℕ, List, ◌≡◌, ◌<◌, ◌+◌, ◌*◌, ◌%◌, ◌++◌, length}
use Rattle.std.specs.Borrow.{GName}
use Rattle.wire_spec.specs.Bytes.{AreBytes}
use Rattle.fec_spec.specs.Codeword.{row_value}
use Rattle.fec_spec.specs.Field.{field_power}
use Rattle.fec_spec.specs.Table.{table_row}
use Rattle.rs_encode.specs.Ring.{ring_row}
use Rattle.rs_encode.specs.declared.columns.Columns.{Columns}

-- the rows of a column
abbrev pub rows_of : Columns → ℕ
rows_of columns = columns.rows

-- how many columns were pushed
abbrev pub pushed_of : Columns → ℕ
pushed_of columns = columns.pushed

-- the parity columns, one after another
abbrev pub parity_of : Columns → List ℕ
parity_of columns = columns.parity.now

-- the reference to the buffer that they lie in
abbrev pub buffer_of : Columns → GName
buffer_of columns = columns.parity.ghost_name

-- the encoder was given these columns, one after another, and each row of them followed by its parity is zero at the powers 0 to 63 of 2 (EN 301 192 clause 9)
pub record Stands (columns : Columns) (given : List ℕ) : Type 0 where
  pub long : length given ≡ pushed_of columns * rows_of columns
  pub bytes : AreBytes given
  pub parity_bytes : AreBytes (parity_of columns)
  pub zeros : (r m : ℕ) → r < rows_of columns → m < 64
      → row_value (field_power 2 m) (table_row (pushed_of columns) (rows_of columns) given r ++ ring_row ((pushed_of columns + 1) % 64) (rows_of columns) (parity_of columns) r) ≡ 0
