-- One column of a buffer, changed through a part of the buffer.
use Rattle.std.proofs.Common.{ℕ, List, ◌≡◌, ◌⊎◌, ◌++◌, ◌+◌, ◌-◌, ◌*◌, ◌<◌, ◌≤◌, inl, inr, length, get_or, take, drop, refl, ap, sym, ◌∙◌, arith, length-take, get_or-take, get_or-drop, length-append, length-drop, slice_set}
use Rattle.std.proofs.Math.Nat.{mul-le-mul_right}
use Rattle.std.proofs.Math.Seq.{get_or-append_right}
use Rattle.std.proofs.lemmas.Bool.{cases_lt}
use Rattle.std.proofs.lemmas.Nat.{same_from_place}
use Rattle.std.proofs.lemmas.List.{get_or_append_left, get_or-set_other, get_or-set_same}
use Rattle.std.proofs.lemmas.List.Edits.{get_or-between}
use Rattle.std.specs.List.{between}
use borrow.Rule.Slice.PartMut.{put_mid}
use Rattle.rs_erasure.specs.Columns.{IsColumnChanged, cell}

pub cell_is : (rows : ℕ) (buffer : List ℕ) (column row : ℕ) → cell rows buffer column row ≡ get_or buffer (column * rows + row) 0
unfolding cell
cell_is rows buffer column row = refl

-- a changed column stayed in the rows outside the run
pub column_outside : (rows from to column : ℕ) (f : ℕ → ℕ) (old new : List ℕ) → IsColumnChanged rows from to column f old new
    → (j r : ℕ) → r < rows → (r < from) ⊎ (to ≤ r) → cell rows new j r ≡ cell rows old j r
column_outside rows from to column f old new is j r low (inl before) = is.elsewhere j r low (λ e ge lt. omega (arith, before, ge))
column_outside rows from to column f old new is j r low (inr behind) = is.elsewhere j r low (λ e ge lt. omega (arith, behind, lt))

-- a column ends where a later one begins, or before
pub column_below : (j k rows r : ℕ) → j < k → r ≤ rows → j * rows + r ≤ k * rows
column_below j k rows r lt le =
    let whole : (j + 1) * rows ≤ k * rows = mul-le-mul_right rows (omega arith) in
    omega arith

-- ---- a part of a list, written anew

mid_below : (a k : ℕ) (xs ys : List ℕ) (i : ℕ) → i < a → a ≤ length xs → get_or (put_mid a k xs ys) i 0 ≡ get_or xs i 0
mid_below a k xs ys i lt le =
    let l : length (take a xs) ≡ a = length-take a xs ∙ (omega arith) in
    get_or_append_left (take a xs) (ys ++ drop k (drop a xs)) 0 i (omega arith) ∙ get_or-take a xs i 0 lt

mid_at : (a k : ℕ) (xs ys : List ℕ) (i : ℕ) → i < length ys → a ≤ length xs → get_or (put_mid a k xs ys) (a + i) 0 ≡ get_or ys i 0
mid_at a k xs ys i lt le =
    let l : length (take a xs) ≡ a = length-take a xs ∙ (omega arith) in
    let e : a + i - length (take a xs) ≡ i = omega arith in
    get_or-append_right (take a xs) (ys ++ drop k (drop a xs)) (a + i) 0 (omega arith)
    ∙ ap (λ n. get_or (ys ++ drop k (drop a xs)) n 0) e
    ∙ get_or_append_left ys (drop k (drop a xs)) 0 i lt

mid_above : (a k : ℕ) (xs ys : List ℕ) (i : ℕ) → length ys ≡ k → a ≤ length xs → a + k ≤ i → get_or (put_mid a k xs ys) i 0 ≡ get_or xs i 0
mid_above a k xs ys i same le far =
    let l : length (take a xs) ≡ a = length-take a xs ∙ (omega arith) in
    let e : i - length (take a xs) ≡ i - a = omega arith in
    let f : a + (k + (i - a - length ys)) ≡ i = omega arith in
    get_or-append_right (take a xs) (ys ++ drop k (drop a xs)) i 0 (omega arith)
    ∙ ap (λ n. get_or (ys ++ drop k (drop a xs)) n 0) e
    ∙ get_or-append_right ys (drop k (drop a xs)) (i - a) 0 (omega arith)
    ∙ get_or-drop k (drop a xs) (i - a - length ys) 0
    ∙ get_or-drop a xs (k + (i - a - length ys)) 0
    ∙ ap (λ n. get_or xs n 0) f

length-dropped : (k a : ℕ) (xs : List ℕ) → length (drop k (drop a xs)) ≡ length xs - a - k
length-dropped k a xs = length-drop k (drop a xs) ∙ ap (λ n. n - k) (length-drop a xs)

-- ---- a column, told by the places of the buffer

pub column_changed : (rows from to column : ℕ) (f : ℕ → ℕ) (old new : List ℕ) → to ≤ rows
    → ((i : ℕ) → i < to - from → get_or new (column * rows + from + i) 0 ≡ f (from + i))
    → ((i : ℕ) → i < column * rows + from → get_or new i 0 ≡ get_or old i 0)
    → ((i : ℕ) → column * rows + to ≤ i → get_or new i 0 ≡ get_or old i 0)
    → IsColumnChanged rows from to column f old new
column_changed rows from to column f old new within here below above = record {
  here = λ r ge lt.
      let e : column * rows + r ≡ column * rows + from + (r - from) = omega arith in
      let g : from + (r - from) ≡ r = omega arith in
      cell_is rows new column r ∙ ap (λ i. get_or new i 0) e ∙ here (r - from) (omega arith) ∙ ap f g;
  elsewhere = λ j r low other. cell_is rows new j r
      ∙ (elim (cases_lt j column) [
        | inl before ↦ let h : j * rows + rows ≤ column * rows = column_below j column rows rows before (omega arith) in below (j * rows + r) (omega arith)
        | inr after ↦ elim (cases_lt column j) [
          | inl past ↦ let h : column * rows + rows ≤ j * rows = column_below column j rows rows past (omega arith) in above (j * rows + r) (omega arith)
          | inr le ↦
              let e : j ≡ column = omega arith in
              let p : j * rows ≡ column * rows = ap (λ n. n * rows) e in
              elim (cases_lt r from) [
                | inl early ↦ below (j * rows + r) (omega arith)
                | inr ge ↦ elim (cases_lt r to) [
                  | inl lt ↦ absurd (other e ge lt)
                  | inr late ↦ above (j * rows + r) (omega arith)
                ]
              ]
        ]
      ])
      ∙ sym (cell_is rows old j r);
}

-- a part of the whole buffer
pub part_changed : (rows from to column start k : ℕ) (f : ℕ → ℕ) (old part : List ℕ) → from ≤ to → to ≤ rows → (column + 1) * rows ≤ length old
    → start ≡ column * rows + from → k ≡ to - from → length part ≡ k
    → ((i : ℕ) → i < to - from → get_or part i 0 ≡ f (from + i))
    → IsColumnChanged rows from to column f old (put_mid start k old part)
part_changed rows from to column start k f old part order within room s e long is =
    column_changed rows from to column f old (put_mid start k old part) within
    (λ i lt. let q : column * rows + from + i ≡ start + i = omega arith in ap (λ n. get_or (put_mid start k old part) n 0) q ∙ mid_at start k old part i (omega arith) (omega arith) ∙ is i lt)
    (λ i lt. mid_below start k old part i (omega arith) (omega arith))
    (λ i le. mid_above start k old part i long (omega arith) (omega arith))

-- a part of the back of a buffer that was split where the column begins
pub later_changed : (rows from to column k : ℕ) (f : ℕ → ℕ) (old before after part : List ℕ) → from ≤ to → to ≤ rows → (column + 1) * rows ≤ length old
    → old ≡ before ++ after → length before ≡ column * rows → k ≡ to - from → length part ≡ k
    → ((i : ℕ) → i < to - from → get_or part i 0 ≡ f (from + i))
    → IsColumnChanged rows from to column f old (before ++ put_mid from k after part)
later_changed rows from to column k f old before after part order within room whole front e long is =
    let new : List ℕ = before ++ put_mid from k after part in
    let l : length old ≡ length before + length after = ap (λ (t : List ℕ). length t) whole ∙ length-append before after in
    let right : (i : ℕ) → get_or new (column * rows + i) 0 ≡ get_or (put_mid from k after part) i 0 = λ i.
    let q : column * rows + i - length before ≡ i = omega arith in
    get_or-append_right before (put_mid from k after part) (column * rows + i) 0 (omega arith) ∙ ap (λ n. get_or (put_mid from k after part) n 0) q in
    let old_right : (i : ℕ) → get_or old (column * rows + i) 0 ≡ get_or after i 0 = λ i.
    let q : column * rows + i - length before ≡ i = omega arith in
    ap (λ (t : List ℕ). get_or t (column * rows + i) 0) whole ∙ get_or-append_right before after (column * rows + i) 0 (omega arith) ∙ ap (λ n. get_or after n 0) q in
    column_changed rows from to column f old new within
    (λ i lt.
    let q : column * rows + from + i ≡ column * rows + (from + i) = omega arith in
    ap (λ n. get_or new n 0) q ∙ right (from + i) ∙ mid_at from k after part i (omega arith) (omega arith) ∙ is i lt)
    (λ i lt. elim (cases_lt i (column * rows)) [
      | inl low ↦
          get_or_append_left before (put_mid from k after part) 0 i (omega arith)
          ∙ sym (ap (λ (t : List ℕ). get_or t i 0) whole ∙ get_or_append_left before after 0 i (omega arith))
      | inr high ↦
          let q : i ≡ column * rows + (i - column * rows) = omega arith in
          ap (λ n. get_or new n 0) q ∙ right (i - column * rows) ∙ mid_below from k after part (i - column * rows) (omega arith) (omega arith)
          ∙ sym (ap (λ n. get_or old n 0) q ∙ old_right (i - column * rows))
    ])
    (λ i le.
    let q : i ≡ column * rows + (i - column * rows) = omega arith in
    ap (λ n. get_or new n 0) q ∙ right (i - column * rows) ∙ mid_above from k after part (i - column * rows) long (omega arith) (omega arith)
    ∙ sym (ap (λ n. get_or old n 0) q ∙ old_right (i - column * rows)))

-- a part of the front of a buffer that was split after the column
pub earlier_changed : (rows from to column start k : ℕ) (f : ℕ → ℕ) (old before after part : List ℕ) → from ≤ to → to ≤ rows → (column + 1) * rows ≤ length before
    → old ≡ before ++ after → start ≡ column * rows + from → k ≡ to - from → length part ≡ k
    → ((i : ℕ) → i < to - from → get_or part i 0 ≡ f (from + i))
    → IsColumnChanged rows from to column f old (put_mid start k before part ++ after)
earlier_changed rows from to column start k f old before after part order within room whole s e long is =
    let mid : List ℕ = put_mid start k before part in
    let lt1 : length (take start before) ≡ start = length-take start before ∙ (omega arith) in
    let ld : length (drop k (drop start before)) ≡ length before - start - k = length-dropped k start before in
    let lm : length mid ≡ length before = length-append (take start before) (part ++ drop k (drop start before)) ∙ ap (λ n. length (take start before) + n) (length-append part (drop k (drop start before))) ∙ (omega arith) in
    let left : (i : ℕ) → i < length before → get_or (mid ++ after) i 0 ≡ get_or mid i 0 = λ i lt. get_or_append_left mid after 0 i (omega arith) in
    let old_left : (i : ℕ) → i < length before → get_or old i 0 ≡ get_or before i 0 = λ i lt. ap (λ (t : List ℕ). get_or t i 0) whole ∙ get_or_append_left before after 0 i lt in
    column_changed rows from to column f old (mid ++ after) within
    (λ i lt.
    let q : column * rows + from + i ≡ start + i = omega arith in
    ap (λ n. get_or (mid ++ after) n 0) q ∙ left (start + i) (omega arith) ∙ mid_at start k before part i (omega arith) (omega arith) ∙ is i lt)
    (λ i lt. left i (omega arith) ∙ mid_below start k before part i (omega arith) (omega arith) ∙ sym (old_left i (omega arith)))
    (λ i le. elim (cases_lt i (length before)) [
      | inl low ↦ left i low ∙ mid_above start k before part i long (omega arith) (omega arith) ∙ sym (old_left i low)
      | inr high ↦
          let q : i - length mid ≡ i - length before = ap (λ n. i - n) lm in
          get_or-append_right mid after i 0 (omega arith) ∙ ap (λ n. get_or after n 0) q
          ∙ sym (ap (λ (t : List ℕ). get_or t i 0) whole ∙ get_or-append_right before after i 0 high)
    ])

-- a byte of a column's part
pub between_cell : (rows from to column : ℕ) (buffer : List ℕ) (i : ℕ) → i < to - from
    → get_or (between (column * rows + from) (column * rows + to) buffer) i 0 ≡ cell rows buffer column (from + i)
between_cell rows from to column buffer i lt =
    let q : column * rows + from + i ≡ column * rows + (from + i) = omega arith in
    get_or-between buffer (column * rows + from) (column * rows + to) i 0 (omega arith) ∙ ap (λ n. get_or buffer n 0) q ∙ sym (cell_is rows buffer column (from + i))

-- the same of a buffer that was split where the column begins
pub between_back : (rows from to column : ℕ) (buffer before after : List ℕ) (i : ℕ) → buffer ≡ before ++ after → length before ≡ column * rows → i < to - from
    → get_or (between from to after) i 0 ≡ cell rows buffer column (from + i)
between_back rows from to column buffer before after i whole front lt =
    let q : column * rows + (from + i) - length before ≡ from + i = omega arith in
    get_or-between after from to i 0 (omega arith)
    ∙ sym (cell_is rows buffer column (from + i) ∙ ap (λ (t : List ℕ). get_or t (column * rows + (from + i)) 0) whole
    ∙ get_or-append_right before after (column * rows + (from + i)) 0 (omega arith) ∙ ap (λ n. get_or after n 0) q)

-- a byte in the front of a buffer
pub cell_front : (rows column r : ℕ) (buffer before after : List ℕ) → buffer ≡ before ++ after → column * rows + r < length before
    → cell rows before column r ≡ cell rows buffer column r
cell_front rows column r buffer before after whole lt =
    cell_is rows before column r
    ∙ sym (cell_is rows buffer column r ∙ ap (λ (t : List ℕ). get_or t (column * rows + r) 0) whole ∙ get_or_append_left before after 0 (column * rows + r) lt)

-- ---- one byte

pub cell_set_same : (rows : ℕ) (buffer : List ℕ) (column row v : ℕ) → column * rows + row < length buffer → cell rows (slice_set buffer (column * rows + row) v) column row ≡ v
cell_set_same rows buffer column row v lt = cell_is rows (slice_set buffer (column * rows + row) v) column row ∙ get_or-set_same buffer (column * rows + row) v 0 lt

pub cell_set_other : (rows : ℕ) (buffer : List ℕ) (column row v j r : ℕ) → r < rows → row < rows → ((j ≡ column) × (r ≡ row) → ⊥)
    → cell rows (slice_set buffer (column * rows + row) v) j r ≡ cell rows buffer j r
cell_set_other rows buffer column row v j r low within other =
    cell_is rows (slice_set buffer (column * rows + row) v) j r
    ∙ get_or-set_other buffer (column * rows + row) (j * rows + r) v 0 (λ e. other (same_from_place j r column row rows low within e))
    ∙ sym (cell_is rows buffer j r)
