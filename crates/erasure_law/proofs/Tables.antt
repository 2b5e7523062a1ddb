-- Rows of a table that stands column by column.
use Rattle.std.proofs.Common.{ℕ, zero, suc, List, [], ◌∷◌, ◌≡◌, ◌+◌, ◌*◌, ◌<◌, length, get_or, refl, ap, ◌∙◌, arith}
use Rattle.fec_spec.specs.Table.{table_row}

pub table_row_none : (rows : ℕ) (table : List ℕ) (at : ℕ) → table_row 0 rows table at ≡ []
unfolding table_row
table_row_none rows table at = refl

pub table_row_more : (n rows : ℕ) (table : List ℕ) (at : ℕ) → table_row (suc n) rows table at ≡ get_or table at 0 ∷ table_row n rows table (at + rows)
unfolding table_row
table_row_more n rows table at = refl

pub length-table_row : (n rows : ℕ) (table : List ℕ) (at : ℕ) → length (table_row n rows table at) ≡ n
length-table_row zero rows table at = ap (λ (l : List ℕ). length l) (table_row_none rows table at)
length-table_row (suc n) rows table at = ap (λ (l : List ℕ). length l) (table_row_more n rows table at) ∙ ap (λ k. suc k) (length-table_row n rows table (at + rows))

-- the byte of a column
pub get_or-table_row : (n rows : ℕ) (table : List ℕ) (at j : ℕ) → j < n → get_or (table_row n rows table at) j 0 ≡ get_or table (j * rows + at) 0
get_or-table_row zero rows table at j h = absurd (omega arith)
get_or-table_row (suc n) rows table at zero h =
    let e : at ≡ 0 * rows + at = omega arith in
    ap (λ (l : List ℕ). get_or l 0 0) (table_row_more n rows table at) ∙ ap (λ k. get_or table k 0) e
get_or-table_row (suc n) rows table at (suc j) h =
    let e : j * rows + (at + rows) ≡ suc j * rows + at = omega arith in
    ap (λ (l : List ℕ). get_or l (suc j) 0) (table_row_more n rows table at)
    ∙ get_or-table_row n rows table (at + rows) j (omega arith)
    ∙ ap (λ k. get_or table k 0) e
