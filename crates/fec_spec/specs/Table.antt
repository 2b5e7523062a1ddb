-- Tables that stand column by column (EN 301 192 clause 9): the bytes of the first column, then those of the next.
use Rattle.std.specs.Prelude.{ℕ, List, [], ◌∷◌, ◌+◌, zero, suc, slice_index}

-- row r of a table of columns of `rows` bytes: the bytes at r, r + rows, r + 2 × rows and so on, one of each column (EN 301 192 clause 9)
unfoldable pub table_row : ℕ → ℕ → List ℕ → ℕ → List ℕ
table_row zero rows table r = []
table_row (suc columns) rows table r = slice_index table r ∷ table_row columns rows table (r + rows)
