-- The RS data table: its columns hold the parity of each row, and nothing else does.
use Rattle.std.proofs.Common.{◌≡◌, ℕ, zero, suc, ◌+◌, ◌-◌, ◌*◌, ◌<◌, ◌≤◌, List, ◌++◌, length, get_or, map, take, drop, refl, ap, ap₂, sym, ◌∙◌, subst, arith}
use Rattle.std.specs.List.{flat_map, range_with_len}
use Rattle.std.proofs.lemmas.List.{length-append, length-drop, length-take-le, take-append-drop, get_or-take, get_or-drop, get_or_append_left, get_or-append_right, nil_from_length}
use Rattle.std.proofs.lemmas.List.FromFn.{length-map-range_with_len, get_or-map-range_with_len, fill_by_all}
use Rattle.wire_spec.specs.Bytes.{AreBytes}
use Rattle.fec_spec.specs.Codeword.{IsCodeword}
use Rattle.fec_spec.specs.Table.{table_row}
use Rattle.fec_frame_spec.specs.Sender.{parity_table, row_parity}
use Rattle.erasure_law.proofs.Tables.{length-table_row, get_or-table_row}
use Rattle.fec_sent_law.proofs.Rows.{table_row_is, table_row-append, table_row_all}
use Rattle.fec_frame_law.proofs.Parity.{parity_completes, parity_is}

module _ (rows : ℕ) where
  -- a table whose byte in row r of column k is told
  abbrev told : (ℕ → ℕ → ℕ) → ℕ → ℕ → List ℕ
  told f a m = flat_map (λ (k : ℕ). map (λ (r : ℕ). f k r) (range_with_len 0 rows)) (range_with_len a m)

  column_long : (f : ℕ → ℕ → ℕ) (k : ℕ) → length (map (λ (r : ℕ). f k r) (range_with_len 0 rows)) ≡ rows
  column_long f k = length-map-range_with_len (λ (r : ℕ). f k r) 0 rows

  length-told : (f : ℕ → ℕ → ℕ) (a m : ℕ) → length (told f a m) ≡ m * rows
  length-told f a zero = let e : 0 ≡ 0 * rows = omega arith in e
  length-told f a (suc m) =
      let l = length-append (map (λ (r : ℕ). f a r) (range_with_len 0 rows)) (told f (a + 1) m) in
      omega (arith, l, column_long f a, length-told f (a + 1) m)

  -- it is told by its bytes
  told_is : (f : ℕ → ℕ → ℕ) (m a : ℕ) (table : List ℕ) → length table ≡ m * rows
      → ((k r : ℕ) → k < m → r < rows → get_or table (k * rows + r) 0 ≡ f (a + k) r) → table ≡ told f a m
  told_is f zero a table long each = nil_from_length table (omega (arith, long))
  told_is f (suc m) a table long each =
      sym (take-append-drop rows table) ∙ ap₂ (λ (x y : List ℕ). x ++ y) first (told_is f m (a + 1) (drop rows table) left rest_at)
    where
      enough : rows ≤ length table
      enough = omega (arith, long)

      left : length (drop rows table) ≡ m * rows
      left = omega (arith, long, length-drop rows table)

      first_at : (r : ℕ) → r < rows → get_or (take rows table) r 0 ≡ f a r
      first_at r low =
          let here : r ≡ 0 * rows + r = omega arith in
          let at : a + 0 ≡ a = omega arith in
          get_or-take rows table r 0 low ∙ ap (λ (i : ℕ). get_or table i 0) here ∙ each 0 r (omega arith) low ∙ ap (λ (n : ℕ). f n r) at

      first : take rows table ≡ map (λ (r : ℕ). f a r) (range_with_len 0 rows)
      first = fill_by_all (λ (r : ℕ). f a r) (take rows table) rows 0 (length-take-le rows table enough) first_at

      rest_at : (k r : ℕ) → k < m → r < rows → get_or (drop rows table) (k * rows + r) 0 ≡ f (a + 1 + k) r
      rest_at k r low within =
          let there : rows + (k * rows + r) ≡ suc k * rows + r = omega arith in
          let at : a + suc k ≡ a + 1 + k = omega arith in
          get_or-drop rows table (k * rows + r) 0 ∙ ap (λ (i : ℕ). get_or table i 0) there ∙ each (suc k) r (omega (arith, low)) within ∙ ap (λ (n : ℕ). f n r) at

  -- and has them
  told_at : (f : ℕ → ℕ → ℕ) (m a k r : ℕ) → k < m → r < rows → get_or (told f a m) (k * rows + r) 0 ≡ f (a + k) r
  told_at f zero a k r low within = absurd (omega (arith, low))
  told_at f (suc m) a zero r low within =
      let column : List ℕ = map (λ (i : ℕ). f a i) (range_with_len 0 rows) in
      let here : 0 * rows + r ≡ r = omega arith in
      let at : a ≡ a + 0 = omega arith in
      let inside : r < length column = omega (arith, within, column_long f a) in
      ap (λ (i : ℕ). get_or (column ++ told f (a + 1) m) i 0) here
      ∙ get_or_append_left column (told f (a + 1) m) 0 r inside
      ∙ get_or-map-range_with_len (λ (i : ℕ). f a i) 0 rows r r 0 within (omega arith)
      ∙ ap (λ (n : ℕ). f n r) at
  told_at f (suc m) a (suc k) r low within =
      let column : List ℕ = map (λ (i : ℕ). f a i) (range_with_len 0 rows) in
      let there : suc k * rows + r - rows ≡ k * rows + r = omega arith in
      let at : a + 1 + k ≡ a + suc k = omega arith in
      get_or-append_right column (told f (a + 1) m) rows (suc k * rows + r) 0 (column_long f a) (omega arith)
      ∙ ap (λ (i : ℕ). get_or (told f (a + 1) m) i 0) there
      ∙ told_at f m (a + 1) k r (omega (arith, low)) within
      ∙ ap (λ (n : ℕ). f n r) at

  -- the byte of parity in row r of column k
  abbrev parity_byte : List ℕ → ℕ → ℕ → ℕ
  parity_byte table k r = get_or (row_parity (table_row 191 rows table r)) k 0

  parity_told : (table : List ℕ) → parity_table rows table ≡ told (parity_byte table) 0 64
  unfolding parity_table
  parity_told table = refl

  pub length-parity_table : (table : List ℕ) → length (parity_table rows table) ≡ 64 * rows
  length-parity_table table = ap (λ (l : List ℕ). length l) (parity_told table) ∙ length-told (parity_byte table) 0 64

  -- what makes each row a codeword is the RS data table
  pub codewords_tell : (table parity : List ℕ) → length table ≡ 191 * rows → length parity ≡ 64 * rows
      → ((r : ℕ) → r < rows → IsCodeword (table_row 255 rows (table ++ parity) r)) → parity ≡ parity_table rows table
  codewords_tell table parity long size codewords = told_is (parity_byte table) 64 0 parity size each ∙ sym (parity_told table)
    where
      row_is : (r : ℕ) → r < rows → table_row 64 rows parity r ≡ row_parity (table_row 191 rows table r)
      row_is r low =
          parity_is (table_row 191 rows table r) (table_row 64 rows parity r) (length-table_row 191 rows table r)
          (subst IsCodeword (table_row-append 191 64 rows table parity r long low) (codewords r low))

      each : (k r : ℕ) → k < 64 → r < rows → get_or parity (k * rows + r) 0 ≡ parity_byte table (0 + k) r
      each k r low within =
          let at : k ≡ 0 + k = omega arith in
          sym (get_or-table_row 64 rows parity r k low) ∙ ap (λ (l : List ℕ). get_or l k 0) (row_is r within) ∙ ap (λ (n : ℕ). parity_byte table n r) at

  -- with it each row is one
  pub rows_are_codewords : (table : List ℕ) → length table ≡ 191 * rows → AreBytes table → (r : ℕ) → r < rows
      → IsCodeword (table_row 255 rows (table ++ parity_table rows table) r)
  rows_are_codewords table long bytes r low =
      subst IsCodeword (sym (table_row-append 191 64 rows table (parity_table rows table) r long low ∙ ap (λ (l : List ℕ). row ++ l) behind)) is
    where
      row : List ℕ
      row = table_row 191 rows table r

      row_long : length row ≡ 191
      row_long = length-table_row 191 rows table r

      is : IsCodeword (row ++ row_parity row)
      is = parity_completes row row_long (table_row_all (λ (b : ℕ). b < 256) 191 rows table r long low bytes)

      size : length (row_parity row) ≡ 64
      size = omega (arith, is.long, length-append row (row_parity row), row_long)

      behind : table_row 64 rows (parity_table rows table) r ≡ row_parity row
      behind =
          sym (table_row_is 64 rows (parity_table rows table) r (row_parity row) size
          (λ k within.
          let at : 0 + k ≡ k = omega arith in
          sym (ap (λ (l : List ℕ). get_or l (k * rows + r) 0) (parity_told table) ∙ told_at (parity_byte table) 64 0 k r within low ∙ ap (λ (n : ℕ). parity_byte table n r) at)))
