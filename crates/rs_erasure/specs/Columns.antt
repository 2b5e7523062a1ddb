-- Buffers that stand column by column, and a change of one column.
use Rattle.std.specs.Prelude.{ℕ, List, ◌≡◌, ◌+◌, ◌*◌, ◌<◌, ◌≤◌, slice_index}

-- the byte of a column in a row
unfoldable pub cell : ℕ → List ℕ → ℕ → ℕ → ℕ
cell rows buffer column row = slice_index buffer (column * rows + row)

-- in the rows of a run one column became f, and every other byte stayed
pub record IsColumnChanged (rows from to column : ℕ) (f : ℕ → ℕ) (old new : List ℕ) : Type 0 where
  pub here : (r : ℕ) → from ≤ r → r < to → cell rows new column r ≡ f r
  pub elsewhere : (j r : ℕ) → r < rows → (j ≡ column → from ≤ r → r < to → ⊥) → cell rows new j r ≡ cell rows old j r
