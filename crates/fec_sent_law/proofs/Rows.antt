-- Rows of a table that stands column by column.
use Rattle.std.proofs.Common.{ℕ, List, ◌++◌, ◌≡◌, ◌+◌, ◌-◌, ◌*◌, ◌<◌, ◌≤◌, length, get_or, arith, ap, ◌∙◌, sym, subst, ◌⊎◌, inl, inr, length-append}
use Rattle.std.specs.List.{All}
use Rattle.std.proofs.Math.Nat.{add-mul}
use Rattle.std.proofs.lemmas.Bool.{cases_lt}
use Rattle.std.proofs.lemmas.List.{get_or_append_left, get_or-append_right}
use Rattle.std.proofs.lemmas.List.Elements.{All-from_get_or}
use Rattle.std.proofs.lemmas.Grind.{same_number_lists}
use Rattle.fec_spec.specs.Table.{table_row}
use Rattle.erasure_law.proofs.Tables.{length-table_row, get_or-table_row}

-- a row is told by its bytes
pub table_row_is : (columns rows : ℕ) (table : List ℕ) (r : ℕ) (row : List ℕ) → length row ≡ columns
    → ((k : ℕ) → k < columns → get_or row k 0 ≡ get_or table (k * rows + r) 0)
    → row ≡ table_row columns rows table r
table_row_is columns rows table r row long each =
    let l : length (table_row columns rows table r) ≡ columns = length-table_row columns rows table r in
    same_number_lists row (table_row columns rows table r) (long ∙ sym l)
    (λ k h. each k (omega arith) ∙ sym (get_or-table_row columns rows table r k (omega arith)))

-- a place of a column that is there
pub place_below : (n rows k r : ℕ) → k < n → r < rows → k * rows + r < n * rows
place_below n rows k r h low = grind arith

-- the place of a byte after n columns
place_moved : (n j k rows r : ℕ) → n + j ≡ k → n * rows + (j * rows + r) ≡ k * rows + r
place_moved n j k rows r e =
    let f : (n + j) * rows ≡ n * rows + j * rows = add-mul n j rows in
    let g : n * rows + (j * rows + r) ≡ (n + j) * rows + r = omega arith in
    g ∙ ap (λ t. t * rows + r) e

-- columns, and then others
pub table_row-append : (n m rows : ℕ) (front behind : List ℕ) (r : ℕ) → length front ≡ n * rows → r < rows
    → table_row (n + m) rows (front ++ behind) r ≡ table_row n rows front r ++ table_row m rows behind r
table_row-append n m rows front behind r long low =
    let a : List ℕ = table_row n rows front r in
    let b : List ℕ = table_row m rows behind r in
    let la : length a ≡ n = length-table_row n rows front r in
    let lb : length b ≡ m = length-table_row m rows behind r in
    let each : (k : ℕ) → k < n + m → (k < n) ⊎ (n ≤ k) → get_or (a ++ b) k 0 ≡ get_or (front ++ behind) (k * rows + r) 0 =
    λ k h side. elim side [
      | inl before ↦
          let fits : k * rows + r < length front = omega (arith, place_below n rows k r before low) in
          get_or_append_left a b 0 k (omega arith) ∙ get_or-table_row n rows front r k before ∙ sym (get_or_append_left front behind 0 (k * rows + r) fits)
      | inr after ↦
          let j : ℕ = k - n in
          let e : n * rows + (j * rows + r) ≡ k * rows + r = place_moved n j k rows r (omega arith) in
          let e2 : k * rows + r - n * rows ≡ j * rows + r = omega arith in
          get_or-append_right a b n k 0 la after ∙ get_or-table_row m rows behind r j (omega arith)
          ∙ ap (λ i. get_or behind i 0) (sym e2) ∙ sym (get_or-append_right front behind (n * rows) (k * rows + r) 0 long (omega arith))
    ] in
    sym (table_row_is (n + m) rows (front ++ behind) r (a ++ b) (length-append a b ∙ omega arith) (λ k h. each k h (cases_lt k n)))

-- what holds of each byte of a table holds of each byte of its rows
pub table_row_all : (P : ℕ → Type 0) (columns rows : ℕ) (table : List ℕ) (r : ℕ) → length table ≡ columns * rows → r < rows
    → All P table → All P (table_row columns rows table r)
table_row_all P columns rows table r long low all =
    let l : length (table_row columns rows table r) ≡ columns = length-table_row columns rows table r in
    All-from_get_or P (table_row columns rows table r) 0
    (λ k h. subst P (sym (get_or-table_row columns rows table r k (omega arith))) (all (k * rows + r) 0 (omega (arith, place_below columns rows k r (omega arith) low))))
