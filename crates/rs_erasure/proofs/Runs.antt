-- Steps of the loops over columns.
use Rattle.std.proofs.Common.{ℕ, suc, List, ◌≡◌, ◌+◌, ◌-◌, ◌*◌, ◌^◌, ◌<◌, ◌≤◌, length, get_or, take, drop, ap, ap₂, sym, subst, ◌∙◌, arith, bit_xor}
use Rattle.std.proofs.Math.Seq.{drop-cons}
use Rattle.std.proofs.lemmas.List.{take_more, drop_all}
use Rattle.fec_spec.specs.Field.{field_product}
use Rattle.fec_spec.specs.Codeword.{row_value}
use Rattle.fec_spec.specs.Table.{table_row}
use Rattle.erasure_law.specs.Roots.{combined, root_polynomial}
use Rattle.erasure_law.proofs.Rows.{row_value_push}
use Rattle.erasure_law.proofs.Tables.{length-table_row, get_or-table_row}
use Rattle.erasure_law.proofs.Elimination.{combined_more, eliminated_none}
use Rattle.rs_erasure.specs.Columns.{IsColumnChanged, cell}
use Rattle.rs_erasure.proofs.Changes.{cell_is}

-- a column changed twice
pub changed_again : (rows from to column : ℕ) (f g : ℕ → ℕ) (old mid new : List ℕ)
    → IsColumnChanged rows from to column f old mid → IsColumnChanged rows from to column g mid new → IsColumnChanged rows from to column g old new
changed_again rows from to column f g old mid new first second = record {
  here = second.here;
  elsewhere = λ j r low other. second.elsewhere j r low other ∙ first.elsewhere j r low other;
}

-- a column changed to the same bytes, told otherwise
pub changed_to : (rows from to column : ℕ) (f g : ℕ → ℕ) (old new : List ℕ) → ((r : ℕ) → from ≤ r → r < to → f r ≡ g r)
    → IsColumnChanged rows from to column f old new → IsColumnChanged rows from to column g old new
changed_to rows from to column f g old new same is = record { here = λ r ge lt. is.here r ge lt ∙ same r ge lt; elsewhere = is.elsewhere }

-- the same rows, told otherwise
pub changed_run : (rows rows2 from from2 to to2 column : ℕ) (f : ℕ → ℕ) (old new : List ℕ) → rows ≡ rows2 → from ≡ from2 → to ≡ to2
    → IsColumnChanged rows from to column f old new → IsColumnChanged rows2 from2 to2 column f old new
changed_run rows rows2 from from2 to to2 column f old new e g h is =
    subst (λ a. IsColumnChanged a from2 to2 column f old new) e (subst (λ a. IsColumnChanged rows a to2 column f old new) g (subst (λ a. IsColumnChanged rows from a column f old new) h is))

-- the byte of a row in a column
pub get_or-row : (rows : ℕ) (table : List ℕ) (r j : ℕ) → j < 255 → get_or (table_row 255 rows table r) j 0 ≡ cell rows table j r
get_or-row rows table r j lt = get_or-table_row 255 rows table r j lt ∙ sym (cell_is rows table j r)

-- a byte of a buffer is below 256
pub cell_fits : (rows : ℕ) (buffer : List ℕ) (j r : ℕ) → ((i : ℕ) → get_or buffer i 0 < 2 ^ 8) → cell rows buffer j r < 2 ^ 8
cell_fits rows buffer j r bytes = subst (λ t. t < 2 ^ 8) (sym (cell_is rows buffer j r)) (bytes (j * rows + r))

-- one column more, by Horner's rule
pub value_step : (rows : ℕ) (table : List ℕ) (r z n v : ℕ) → ((i : ℕ) → get_or table i 0 < 2 ^ 8) → n < 255
    → v ≡ row_value z (take n (table_row 255 rows table r))
    → bit_xor (field_product v z) (cell rows table n r) ≡ row_value z (take (n + 1) (table_row 255 rows table r))
value_step rows table r z n v bytes lt is =
    let row : List ℕ = table_row 255 rows table r in
    let l : length row ≡ 255 = length-table_row 255 rows table r in
    let at : get_or row n 0 ≡ cell rows table n r = get_or-row rows table r n lt in
    let fits : get_or row n 0 < 2 ^ 8 = subst (λ t. t < 2 ^ 8) (sym at) (cell_fits rows table n r bytes) in
    ap₂ (λ s t. bit_xor (field_product s z) t) is (sym at)
    ∙ sym (row_value_push z (get_or row n 0) (take n row) fits)
    ∙ ap (λ (t : List ℕ). row_value z t) (sym (take_more row n 0 (omega arith)))

-- one root more, in a column from the new one on
pub root_high : (roots : List ℕ) (syndromes : ℕ → ℕ) (left j a b : ℕ) → left < length roots → length roots - left ≤ j
    → a ≡ combined (root_polynomial (drop (left + 1 + (length roots - (left + 1) - j)) roots)) syndromes (j - (length roots - (left + 1)))
    → b ≡ combined (root_polynomial (drop (left + 1 + (length roots - (left + 1) - (j - 1))) roots)) syndromes (j - 1 - (length roots - (left + 1)))
    → bit_xor a (field_product (get_or roots left 0) b) ≡ combined (root_polynomial (drop (left + (length roots - left - j)) roots)) syndromes (j - (length roots - left))
root_high roots syndromes left j a b lt high is_a is_b =
    let m : ℕ = j - (length roots - left) in
    let k : ℕ = suc left in
    let ea : left + 1 + (length roots - (left + 1) - j) ≡ k = omega arith in
    let eb : left + 1 + (length roots - (left + 1) - (j - 1)) ≡ k = omega arith in
    let ma : j - (length roots - (left + 1)) ≡ suc m = omega arith in
    let mb : j - 1 - (length roots - (left + 1)) ≡ m = omega arith in
    let ec : left + (length roots - left - j) ≡ left = omega arith in
    ap₂ (λ s t. bit_xor s (field_product (get_or roots left 0) t))
    (is_a ∙ ap₂ (λ (x : ℕ) (y : ℕ). combined (root_polynomial (drop x roots)) syndromes y) ea ma)
    (is_b ∙ ap₂ (λ (x : ℕ) (y : ℕ). combined (root_polynomial (drop x roots)) syndromes y) eb mb)
    ∙ sym (combined_more (get_or roots left 0) (drop k roots) syndromes m)
    ∙ ap (λ (l : List ℕ). combined (root_polynomial l) syndromes m) (sym (drop-cons roots left 0 lt))
    ∙ ap (λ (x : ℕ). combined (root_polynomial (drop x roots)) syndromes m) (sym ec)

-- in the columns before it
pub root_low : (roots : List ℕ) (syndromes : ℕ → ℕ) (left j a : ℕ) → left < length roots → j < length roots - left
    → a ≡ combined (root_polynomial (drop (left + 1 + (length roots - (left + 1) - j)) roots)) syndromes (j - (length roots - (left + 1)))
    → a ≡ combined (root_polynomial (drop (left + (length roots - left - j)) roots)) syndromes (j - (length roots - left))
root_low roots syndromes left j a lt low is_a =
    let e : left + 1 + (length roots - (left + 1) - j) ≡ left + (length roots - left - j) = omega arith in
    let m : j - (length roots - (left + 1)) ≡ j - (length roots - left) = omega arith in
    is_a ∙ ap₂ (λ (x : ℕ) (y : ℕ). combined (root_polynomial (drop x roots)) syndromes y) e m

-- the last ones were eliminated before
pub roots_done : (roots : List ℕ) (syndromes : ℕ → ℕ) (done j : ℕ) → done ≤ length roots → done ≤ j
    → combined (root_polynomial (drop (length roots - done) roots)) syndromes (j - done)
    ≡ combined (root_polynomial (drop (length roots - done + (length roots - (length roots - done) - j)) roots)) syndromes (j - (length roots - (length roots - done)))
roots_done roots syndromes done j some ge =
    let e : length roots - done ≡ length roots - done + (length roots - (length roots - done) - j) = omega arith in
    let m : j - done ≡ j - (length roots - (length roots - done)) = omega arith in
    ap₂ (λ (x : ℕ) (y : ℕ). combined (root_polynomial (drop x roots)) syndromes y) e m

-- no root yet
pub no_root : (roots : List ℕ) (syndromes : ℕ → ℕ) (j : ℕ) → syndromes j < 2 ^ 8 → syndromes j ≡ combined (root_polynomial (drop (length roots - 0) roots)) syndromes (j - 0)
no_root roots syndromes j fits =
    let e : length roots - 0 ≡ length roots = omega arith in
    let m : j - 0 ≡ j = omega arith in
    sym (ap₂ (λ (x : ℕ) (y : ℕ). combined (root_polynomial (drop x roots)) syndromes y) e m
    ∙ ap (λ (l : List ℕ). combined (root_polynomial l) syndromes j) (drop_all (length roots) roots (omega arith))
    ∙ eliminated_none syndromes j fits)
