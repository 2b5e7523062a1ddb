-- Runs of rows, corrected and marked.
use Rattle.std.proofs.Common.{◌≡◌, ◌⊎◌, inl, inr, ℕ, ◌+◌, ◌-◌, ◌*◌, ◌<◌, ◌≤◌, Bool, true, false, not, ◌&&◌, ◌||◌, cond, List, length, get_or, set, Option, Some, None, refl, ap, ap₂, sym, ◌∙◌, subst, arith, length-set}
use Rattle.std.specs.Prelude.{◌↔◌, is_none, is_some, count_by}
use Rattle.std.specs.List.{range_with_len}
use Rattle.std.proofs.lemmas.Bool.{cases_eq, cases_lt, eqb-true, eq-eqb}
use Rattle.std.proofs.lemmas.Nat.{mul-add-lt, same_from_place}
use Rattle.std.proofs.Math.Nat.{mul_comm}
use Rattle.std.proofs.lemmas.List.{get_or-set_same, get_or-set_other}
use Rattle.fec_spec.specs.Row.{Agrees, IsCorrectable, is_among}
use Rattle.fec_spec.specs.Table.{table_row}
use Rattle.erasure_law.proofs.Tables.{get_or-table_row}
use Rattle.fec_frame_spec.specs.Corrected.{unknown_columns, corrected_row, byte_of_row, corrected_byte, lacks_data}
use Rattle.fec_frame_law.proofs.Corrected.{corrected_none, row_done, row_left, row_has_data, byte_at}
use Rattle.rs_erasure.specs.Correction.{IsCorrectedBut}
use Rattle.fec_frame.specs.Marks.{is_known_mark, is_start_mark, marked_byte}
use Rattle.fec_frame.specs.Runs.{unmarked, IsPattern, is_good, IsMarked, IsColumnMarked, is_mended, is_left, AreRowsSolved}
use Rattle.fec_frame.proofs.Patterns.{unmarked_is, row_same, lacks_same, columns_same, none_range, some_range}
use Rattle.fec_frame.proofs.Counting.{count_split, count_same, count_all, count_none, count_both}

-- Marks of a column, row by row.

pub column_none : (rows column from : ℕ) (bad marks : List ℕ) → IsColumnMarked rows column from from bad marks marks
column_none rows column from bad marks = record {
  long = refl;
  start = λ place. refl;
  here = λ r order low. absurd (omega (arith, order, low));
  elsewhere = λ j r low out. refl;
}

pub column_more : (rows column from to : ℕ) (bad old marks : List ℕ) (mark : ℕ) → from ≤ to → to < rows → column * rows + to < length marks
    → is_known_mark mark ≡ (is_known_mark (get_or marks (column * rows + to) 0) || is_good bad to) → is_start_mark mark ≡ is_start_mark (get_or marks (column * rows + to) 0)
    → IsColumnMarked rows column from to bad old marks → IsColumnMarked rows column from (to + 1) bad old (set marks (column * rows + to) mark)
column_more rows column from to bad old marks mark order low below known start so_far = record {
  long = length-set marks (column * rows + to) mark ∙ so_far.long;
  start = λ place. by_start place (cases_eq place (column * rows + to));
  here = λ r from_r low_r. by_row r from_r low_r (cases_eq r to);
  elsewhere = λ j r low_r out.
      ap is_known_mark (get_or-set_other marks (column * rows + to) (j * rows + r) mark 0
      (λ same. let at = same_from_place j r column to rows low_r low same in out at.0 (omega (arith, at.1, order)) (omega (arith, at.1))))
      ∙ so_far.elsewhere j r low_r (λ is from_r low_too. out is from_r (omega (arith, low_too)));
}
  where
    by_start : (place : ℕ) → (place ≡ column * rows + to) ⊎ (place ≡ column * rows + to → ⊥)
        → is_start_mark (get_or (set marks (column * rows + to) mark) place 0) ≡ is_start_mark (get_or old place 0)
    by_start place (inl same) =
        ap (λ (p : ℕ). is_start_mark (get_or (set marks (column * rows + to) mark) p 0)) same
        ∙ ap is_start_mark (get_or-set_same marks (column * rows + to) mark 0 below) ∙ start ∙ so_far.start (column * rows + to)
        ∙ ap (λ (p : ℕ). is_start_mark (get_or old p 0)) (sym same)
    by_start place (inr apart) = ap is_start_mark (get_or-set_other marks (column * rows + to) place mark 0 apart) ∙ so_far.start place

    by_row : (r : ℕ) → from ≤ r → r < to + 1 → (r ≡ to) ⊎ (r ≡ to → ⊥)
        → is_known_mark (get_or (set marks (column * rows + to) mark) (column * rows + r) 0) ≡ (is_known_mark (get_or old (column * rows + r) 0) || is_good bad r)
    by_row r from_r low_r (inl same) =
        ap (λ (i : ℕ). is_known_mark (get_or (set marks (column * rows + to) mark) (column * rows + i) 0)) same
        ∙ ap is_known_mark (get_or-set_same marks (column * rows + to) mark 0 below) ∙ known
        ∙ ap (λ (b : Bool). b || is_good bad to) (so_far.elsewhere column to low (λ is from_to never. omega (arith, never)))
        ∙ ap (λ (i : ℕ). is_known_mark (get_or old (column * rows + i) 0) || is_good bad i) (sym same)
    by_row r from_r low_r (inr apart) =
        ap is_known_mark (get_or-set_other marks (column * rows + to) (column * rows + r) mark 0 (λ same. apart (same_from_place column r column to rows (omega (arith, low_r, low)) low same).1))
        ∙ so_far.here r from_r (omega (arith, low_r, apart))

-- a column that is known in all rows
pub column_known : (rows column from to : ℕ) (bad marks : List ℕ) → ((r : ℕ) → from ≤ r → r < to → is_known_mark (get_or marks (column * rows + r) 0) ≡ true)
    → IsColumnMarked rows column from to bad marks marks
column_known rows column from to bad marks known = record {
  long = refl;
  start = λ place. refl;
  here = λ r from_r low_r. known r from_r low_r ∙ sym (ap (λ (b : Bool). b || is_good bad r) (known r from_r low_r));
  elsewhere = λ j r low out. refl;
}

-- the rows of a run are known alike in a column that is not marked yet
pub marked_same : (rows n from to : ℕ) (bad old marks : List ℕ) → from < to → to ≤ rows → n < 255 → IsPattern rows old 255 from to → IsMarked rows n from to bad old marks
    → (r : ℕ) → from ≤ r → r < to → is_known_mark (get_or marks (n * rows + r) 0) ≡ is_known_mark (get_or marks (n * rows + from) 0)
marked_same rows n from to bad old marks order within low pattern so_far r from_r low_r =
    so_far.outside n r (omega (arith, low_r, within)) (inl (omega arith)) ∙ pattern.same n r low from_r low_r
    ∙ sym (so_far.outside n from (omega (arith, order, within)) (inl (omega arith)))

-- Columns, one after another.

pub marked_none : (rows from to : ℕ) (bad marks : List ℕ) → IsMarked rows 0 from to bad marks marks
marked_none rows from to bad marks = record {
  long = refl;
  start = λ place. refl;
  inside = λ j r low. absurd (omega (arith, low));
  outside = λ j r low out. refl;
}

pub marked_more : (rows n from to : ℕ) (bad old marks new : List ℕ) → to ≤ rows → IsMarked rows n from to bad old marks → IsColumnMarked rows n from to bad marks new
    → IsMarked rows (n + 1) from to bad old new
marked_more rows n from to bad old marks new within so_far column = record {
  long = column.long ∙ so_far.long;
  start = λ place. column.start place ∙ so_far.start place;
  inside = λ j r low from_r low_r. by_column j r low from_r low_r (cases_eq j n);
  outside = λ j r low out.
      column.elsewhere j r low (λ is from_r low_r. out_of j r is from_r low_r out) ∙ so_far.outside j r low (out_less j r out);
}
  where
    out_of : (j r : ℕ) → j ≡ n → from ≤ r → r < to → (n + 1 ≤ j) ⊎ ((r < from) ⊎ (to ≤ r)) → ⊥
    out_of j r is from_r low_r (inl over) = omega (arith, over, is)
    out_of j r is from_r low_r (inr (inl before)) = omega (arith, before, from_r)
    out_of j r is from_r low_r (inr (inr after)) = omega (arith, after, low_r)

    out_less : (j r : ℕ) → (n + 1 ≤ j) ⊎ ((r < from) ⊎ (to ≤ r)) → (n ≤ j) ⊎ ((r < from) ⊎ (to ≤ r))
    out_less j r (inl over) = inl (omega (arith, over))
    out_less j r (inr side) = inr side

    by_column : (j r : ℕ) → j < n + 1 → from ≤ r → r < to → (j ≡ n) ⊎ (j ≡ n → ⊥)
        → is_known_mark (get_or new (j * rows + r) 0) ≡ (is_known_mark (get_or old (j * rows + r) 0) || is_good bad r)
    by_column j r low from_r low_r (inl same) =
        ap (λ (i : ℕ). is_known_mark (get_or new (i * rows + r) 0)) same
        ∙ column.here r from_r low_r
        ∙ ap (λ (b : Bool). b || is_good bad r) (so_far.outside n r (omega (arith, low_r, within)) (inl (omega arith)))
        ∙ ap (λ (i : ℕ). is_known_mark (get_or old (i * rows + r) 0) || is_good bad r) (sym same)
    by_column j r low from_r low_r (inr apart) =
        column.elsewhere j r (omega (arith, low_r, within)) (λ is from_too low_too. apart is) ∙ so_far.inside j r (omega (arith, low, apart)) from_r low_r

-- A byte by its mark.

byte_by : (bytes marks : List ℕ) (place : ℕ) → marked_byte bytes marks place ≡ cond (is_known_mark (get_or marks place 0)) (Some (get_or bytes place 0)) None
unfolding marked_byte
byte_by bytes marks place = refl

unknown_by : (bytes marks : List ℕ) (place : ℕ) → is_none (marked_byte bytes marks place) ≡ not (is_known_mark (get_or marks place 0))
unfolding marked_byte
unknown_by bytes marks place = by (is_known_mark (get_or marks place 0))
  where
    by : (b : Bool) → is_none (cond b (Some (get_or bytes place 0)) None) ≡ not b
    by true = refl
    by false = refl

known_holds : (bytes marks : List ℕ) (place byte : ℕ) → marked_byte bytes marks place ≡ Some byte → get_or bytes place 0 ≡ byte
unfolding marked_byte
known_holds bytes marks place byte is = by_known (is_known_mark (get_or marks place 0)) is
  where
    by_known : (known : Bool) → cond known (Some (get_or bytes place 0)) None ≡ Some byte → get_or bytes place 0 ≡ byte
    by_known true told = cc
    by_known false told = absurd (cc)

-- No byte of the application data table is lacked.

module _ (rows : ℕ) (bytes marks : List ℕ) (all : (place : ℕ) → place < 191 * rows → is_known_mark (get_or marks place 0) ≡ true) where
  abbrev all_bytes : ℕ → Option ℕ
  all_bytes = marked_byte bytes marks

  none_lacks : (r : ℕ) → r < rows → lacks_data rows all_bytes r ≡ false
  unfolding lacks_data
  none_lacks r low_r =
      none_range (λ (j : ℕ). is_none (all_bytes (j * rows + r))) 191 0
      (λ i low.
      let e : 0 + i ≡ i = omega arith in
      ap (λ (j : ℕ). is_none (all_bytes (j * rows + r))) e ∙ unknown_by bytes marks (i * rows + r) ∙ ap not (all (i * rows + r) (subst (λ (n : ℕ). i * rows + r < n) (mul_comm rows 191) (mul-add-lt i rows r 191 low low_r))))

  pub all_known : AreRowsSolved rows 0 rows bytes marks bytes marks 0 0
  all_known = record {
    long = refl;
    marks_long = refl;
    start = λ place. refl;
    row = λ j r low from_r low_r. sym (row_has_data rows all_bytes r j low_r low (none_lacks r low_r));
    other = λ j r low low_r out. refl;
    mended_are = λ k is. sym (count_none (is_mended rows all_bytes) k 0
        (λ i low. ap (λ (b : Bool). b && is_some (corrected_row rows all_bytes (0 + i))) (none_lacks (0 + i) (omega (arith, is, low)))));
    left_are = λ k is. sym (count_none (is_left rows all_bytes) k 0
        (λ i low. ap (λ (b : Bool). b && is_none (corrected_row rows all_bytes (0 + i))) (none_lacks (0 + i) (omega (arith, is, low)))));
  }

-- A run of rows that lack the same columns.

module _ (rows : ℕ) (bytes marks : List ℕ) (from to : ℕ) (order : from ≤ to) (within : to ≤ rows) (pattern : IsPattern rows marks 255 from to) where
  abbrev f : ℕ → Option ℕ
  f = marked_byte bytes marks

  run_lacks : (r : ℕ) → from ≤ r → r < to → (j : ℕ) → j < 255 → is_none (f (j * rows + r)) ≡ is_none (f (j * rows + from))
  run_lacks r from_r low_r j low =
      unknown_by bytes marks (j * rows + r) ∙ ap not (pattern.same j r low from_r low_r) ∙ sym (unknown_by bytes marks (j * rows + from))

  run_columns : (r : ℕ) → from ≤ r → r < to → unknown_columns rows f r ≡ unmarked rows marks from 255
  run_columns r from_r low_r = columns_same rows f r from (run_lacks r from_r low_r) ∙ sym (unmarked_is rows bytes marks from)

  -- what was counted is counted over the rows of the run
  rows_from : (i k : ℕ) → from + k ≡ to → i < k → (from ≤ from + i) × (from + i < to)
  rows_from i k is low = (omega arith, omega (arith, is, low))

  -- nothing is lacked
  no_data : ((j : ℕ) → j < 191 → is_known_mark (get_or marks (j * rows + from) 0) ≡ true) → (r : ℕ) → from ≤ r → r < to → lacks_data rows f r ≡ false
  unfolding lacks_data
  no_data known r from_r low_r =
      none_range (λ (j : ℕ). is_none (f (j * rows + r))) 191 0
      (λ i low.
      let e : 0 + i ≡ i = omega arith in
      ap (λ (j : ℕ). is_none (f (j * rows + r))) e ∙ unknown_by bytes marks (i * rows + r) ∙ ap not (pattern.same i r (omega (arith, low)) from_r low_r ∙ known i low))

  pub none_lacked : ((j : ℕ) → j < 191 → is_known_mark (get_or marks (j * rows + from) 0) ≡ true) → AreRowsSolved rows from to bytes marks bytes marks 0 0
  none_lacked known = record {
    long = refl;
    marks_long = refl;
    start = λ place. refl;
    row = λ j r low from_r low_r. sym (row_has_data rows f r j (omega (arith, low_r, within)) low (no_data known r from_r low_r));
    other = λ j r low low_r out. refl;
    mended_are = λ k is. sym (count_none (is_mended rows f) k from (λ i low. let at = rows_from i k is low in ap (λ (b : Bool). b && is_some (corrected_row rows f (from + i))) (no_data known (from + i) at.0 at.1)));
    left_are = λ k is. sym (count_none (is_left rows f) k from (λ i low. let at = rows_from i k is low in ap (λ (b : Bool). b && is_none (corrected_row rows f (from + i))) (no_data known (from + i) at.0 at.1)));
  }

  module _ (lacked : (j : ℕ) × (j < 191) × (is_known_mark (get_or marks (j * rows + from) 0) ≡ false)) where
    data_lacked : (r : ℕ) → from ≤ r → r < to → lacks_data rows f r ≡ true
    unfolding lacks_data
    data_lacked r from_r low_r =
        let e : 0 + lacked.0 ≡ lacked.0 = omega arith in
        some_range (λ (j : ℕ). is_none (f (j * rows + r))) 191 0 lacked.0 lacked.1
        (ap (λ (j : ℕ). is_none (f (j * rows + r))) e ∙ unknown_by bytes marks (lacked.0 * rows + r)
        ∙ ap not (pattern.same lacked.0 r (omega (arith, lacked.1)) from_r low_r ∙ lacked.2))

    mended_is : (r : ℕ) → from ≤ r → r < to → is_mended rows f r ≡ is_some (corrected_row rows f r)
    mended_is r from_r low_r = ap (λ (b : Bool). b && is_some (corrected_row rows f r)) (data_lacked r from_r low_r)

    left_is : (r : ℕ) → from ≤ r → r < to → is_left rows f r ≡ is_none (corrected_row rows f r)
    left_is r from_r low_r = ap (λ (b : Bool). b && is_none (corrected_row rows f r)) (data_lacked r from_r low_r)

    -- too many columns are lacked
    pub too_many : 64 < length (unmarked rows marks from 255) → (count : ℕ) → from + count ≡ to → AreRowsSolved rows from to bytes marks bytes marks 0 count
    too_many many count is_count = record {
      long = refl;
      marks_long = refl;
      start = λ place. refl;
      row = λ j r low from_r low_r.
          sym (byte_at rows f r j (omega (arith, low_r, within)) ∙ ap (λ (o : Option (List ℕ)). byte_of_row o j (f (j * rows + r))) (none r from_r low_r));
      other = λ j r low low_r out. refl;
      mended_are = λ k is. sym (count_none (is_mended rows f) k from
          (λ i low. let at = rows_from i k is low in mended_is (from + i) at.0 at.1 ∙ ap (λ (o : Option (List ℕ)). is_some o) (none (from + i) at.0 at.1)));
      left_are = λ k is.
          let same : count ≡ k = omega (arith, is, is_count) in
          same ∙ sym (count_all (is_left rows f) k from
          (λ i low. let at = rows_from i k is low in left_is (from + i) at.0 at.1 ∙ ap (λ (o : Option (List ℕ)). is_none o) (none (from + i) at.0 at.1)));
    }
      where
        none : (r : ℕ) → from ≤ r → r < to → corrected_row rows f r ≡ None
        none r from_r low_r =
            corrected_none rows f r (λ code is. omega (arith, is.few, many, ap (λ (l : List ℕ). length l) (run_columns r from_r low_r)))

    -- the decoder corrected the good rows
    module _ (new new_marks bad unknown others : List ℕ) (unknown_is : unknown ≡ unmarked rows marks from 255) (apart : (j : ℕ) → j < 191 → is_among j others ≡ false) (long : length new ≡ length bytes)
        (corrected : (r : ℕ) → from ≤ r → r < to → IsCorrectedBut others unknown (table_row 255 rows bytes r) (table_row 255 rows new r))
        (consistent : (r : ℕ) → from ≤ r → r < to → (get_or bad r 0 ≡ 0) ↔ IsCorrectable unknown (table_row 255 rows bytes r))
        (outside : (r : ℕ) → r < rows → (r < from) ⊎ (to ≤ r) → table_row 255 rows new r ≡ table_row 255 rows bytes r)
        (marked : IsMarked rows 191 from to bad marks new_marks) where
      columns : (r : ℕ) → from ≤ r → r < to → unknown ≡ unknown_columns rows f r
      columns r from_r low_r = unknown_is ∙ sym (run_columns r from_r low_r)

      holds : (r j byte : ℕ) → j < 255 → f (j * rows + r) ≡ Some byte → get_or (table_row 255 rows bytes r) j 0 ≡ byte
      holds r j byte low is = get_or-table_row 255 rows bytes r j low ∙ known_holds bytes marks (j * rows + r) byte is

      -- a row as it became
      record IsRowDone (r : ℕ) : Type 0 where
        pub good : is_good bad r ≡ is_some (corrected_row rows f r)
        pub byte : (j : ℕ) → j < 191 → marked_byte new new_marks (j * rows + r) ≡ corrected_byte rows f (j * rows + r)

      good_row : (r : ℕ) → from ≤ r → r < to → get_or bad r 0 ≡ 0 → IsRowDone r
      good_row r from_r low_r good = by_corrected (corrected r from_r low_r)
        where
          by_corrected : IsCorrectedBut others unknown (table_row 255 rows bytes r) (table_row 255 rows new r) → IsRowDone r
          by_corrected (inr left) = absurd (left.0 ((consistent r from_r low_r).0 good))
          by_corrected (inl done) =
              let same = columns r from_r low_r in
              let code : List ℕ = done.1.0 in
              let is : corrected_row rows f r ≡ Some code =
              row_done rows f r (table_row 255 rows bytes r) (holds r) code
              (subst (λ (l : List ℕ). length l ≤ 64) same done.0) done.1.1 (subst (λ (l : List ℕ). Agrees l (table_row 255 rows bytes r) code) same done.1.2) in
              record {
                good = eq-eqb (get_or bad r 0) 0 good ∙ ap (λ (o : Option (List ℕ)). is_some o) (sym is);
                byte = λ j low.
                    byte_by new new_marks (j * rows + r)
                    ∙ ap (λ (b : Bool). cond b (Some (get_or new (j * rows + r) 0)) None)
                    (marked.inside j r low from_r low_r ∙ ap (λ (b : Bool). is_known_mark (get_or marks (j * rows + r) 0) || b) (eq-eqb (get_or bad r 0) 0 good) ∙ or_true (is_known_mark (get_or marks (j * rows + r) 0)))
                    ∙ ap (λ (n : ℕ). Some n) (sym (get_or-table_row 255 rows new r j (omega (arith, low))) ∙ done.1.3.known j (omega (arith, low)) (apart j low))
                    ∙ sym (byte_at rows f r j (omega (arith, low_r, within)) ∙ ap (λ (o : Option (List ℕ)). byte_of_row o j (f (j * rows + r))) is);
              }
            where
              or_true : (b : Bool) → (b || true) ≡ true
              or_true true = refl
              or_true false = refl

      bad_row : (r : ℕ) → from ≤ r → r < to → (get_or bad r 0 ≡ 0 → ⊥) → is_good bad r ≡ false → IsRowDone r
      bad_row r from_r low_r bad_is not_good = by_corrected (corrected r from_r low_r)
        where
          by_corrected : IsCorrectedBut others unknown (table_row 255 rows bytes r) (table_row 255 rows new r) → IsRowDone r
          by_corrected (inl done) = absurd (bad_is ((consistent r from_r low_r).1 (done.0, (done.1.0, done.1.1, done.1.2))))
          by_corrected (inr left) =
              let is : corrected_row rows f r ≡ None =
              row_left rows f r (table_row 255 rows bytes r) (holds r)
              (λ (is_so : IsCorrectable (unknown_columns rows f r) (table_row 255 rows bytes r)).
              left.0 (subst (λ (l : List ℕ). IsCorrectable l (table_row 255 rows bytes r)) (sym (columns r from_r low_r)) is_so)) in
              record {
                good = not_good ∙ ap (λ (o : Option (List ℕ)). is_some o) (sym is);
                byte = λ j low.
                    byte_by new new_marks (j * rows + r)
                    ∙ ap₂ (λ (b : Bool) (n : ℕ). cond b (Some n) None)
                    (marked.inside j r low from_r low_r ∙ ap (λ (b : Bool). is_known_mark (get_or marks (j * rows + r) 0) || b) not_good ∙ or_false (is_known_mark (get_or marks (j * rows + r) 0)))
                    (sym (get_or-table_row 255 rows new r j (omega (arith, low))) ∙ ap (λ (l : List ℕ). get_or l j 0) left.1 ∙ get_or-table_row 255 rows bytes r j (omega (arith, low)))
                    ∙ sym (byte_by bytes marks (j * rows + r))
                    ∙ sym (byte_at rows f r j (omega (arith, low_r, within)) ∙ ap (λ (o : Option (List ℕ)). byte_of_row o j (f (j * rows + r))) is);
              }
            where
              or_false : (b : Bool) → (b || false) ≡ b
              or_false true = refl
              or_false false = refl

      row_done_is : (r : ℕ) → from ≤ r → r < to → IsRowDone r
      row_done_is r from_r low_r = by_good (is_good bad r) refl
        where
          by_good : (b : Bool) → is_good bad r ≡ b → IsRowDone r
          by_good true is = good_row r from_r low_r (eqb-true (get_or bad r 0) 0 is)
          by_good false is = bad_row r from_r low_r (λ zero_is. let wrong : true ≡ false = sym (eq-eqb (get_or bad r 0) 0 zero_is) ∙ is in cc) is

      some_or_none : (o : Option (List ℕ)) → is_none o ≡ not (is_some o)
      some_or_none None = refl
      some_or_none (Some code) = refl

      pub decoded : (mended left : ℕ) → ((k : ℕ) → from + k ≡ to → mended ≡ count_by (is_good bad) (range_with_len from k)) → from + (mended + left) ≡ to
          → AreRowsSolved rows from to bytes marks new new_marks mended left
      decoded mended left mended_is_good count = record {
        long = long;
        marks_long = marked.long;
        start = marked.start;
        row = λ j r low from_r low_r. (row_done_is r from_r low_r).byte j low;
        other = λ j r low low_r out.
            byte_by new new_marks (j * rows + r)
            ∙ ap₂ (λ (b : Bool) (n : ℕ). cond b (Some n) None) (marked.outside j r low_r (inr out))
            (sym (get_or-table_row 255 rows new r j low) ∙ ap (λ (l : List ℕ). get_or l j 0) (outside r low_r out) ∙ get_or-table_row 255 rows bytes r j low)
            ∙ sym (byte_by bytes marks (j * rows + r));
        mended_are = λ k is.
            mended_is_good k is
            ∙ count_same (is_good bad) (is_mended rows f) k from
            (λ i low. let at = rows_from i k is low in (row_done_is (from + i) at.0 at.1).good ∙ sym (mended_is (from + i) at.0 at.1));
        left_are = λ k is.
            let lefts : count_by (λ (x : ℕ). not (is_good bad x)) (range_with_len from k) ≡ count_by (is_left rows f) (range_with_len from k) =
            count_same (λ (x : ℕ). not (is_good bad x)) (is_left rows f) k from
            (λ i low.
            let at = rows_from i k is low in
            ap not (row_done_is (from + i) at.0 at.1).good ∙ sym (some_or_none (corrected_row rows f (from + i))) ∙ sym (left_is (from + i) at.0 at.1)) in
            omega (arith, mended_is_good k is, count_both (is_good bad) k from, lefts, is, count);
      }

-- Runs, one after another.

pub rows_none : (rows : ℕ) (bytes marks : List ℕ) → AreRowsSolved rows 0 0 bytes marks bytes marks 0 0
rows_none rows bytes marks = record {
  long = refl;
  marks_long = refl;
  start = λ place. refl;
  row = λ j r low from_r low_r. absurd (omega (arith, from_r, low_r));
  other = λ j r low low_r out. refl;
  mended_are = λ k is. let e : k ≡ 0 = omega (arith, is) in ap (λ (n : ℕ). count_by (is_mended rows (marked_byte bytes marks)) (range_with_len 0 n)) (sym e);
  left_are = λ k is. let e : k ≡ 0 = omega (arith, is) in ap (λ (n : ℕ). count_by (is_left rows (marked_byte bytes marks)) (range_with_len 0 n)) (sym e);
}

pub rows_more : (rows from to : ℕ) (old old_marks bytes marks new new_marks : List ℕ) (m l n k : ℕ) → from ≤ to → to ≤ rows
    → AreRowsSolved rows 0 from old old_marks bytes marks m l → AreRowsSolved rows from to bytes marks new new_marks n k
    → AreRowsSolved rows 0 to old old_marks new new_marks (m + n) (l + k)
rows_more rows from to old old_marks bytes marks new new_marks m l n k order within so_far here = record {
  long = here.long ∙ so_far.long;
  marks_long = here.marks_long ∙ so_far.marks_long;
  start = λ place. here.start place ∙ so_far.start place;
  row = λ j r low from_r low_r. by_row j r low low_r (cases_lt r from);
  other = λ j r low low_r out. by_out j r low low_r out;
  mended_are = λ c is. let e : c ≡ from + (to - from) = omega (arith, is, order) in
      mended_all (to - from) (omega (arith, order)) ∙ ap (λ (t : ℕ). count_by (is_mended rows f) (range_with_len 0 t)) (sym e);
  left_are = λ c is. let e : c ≡ from + (to - from) = omega (arith, is, order) in
      left_all (to - from) (omega (arith, order)) ∙ ap (λ (t : ℕ). count_by (is_left rows f) (range_with_len 0 t)) (sym e);
}
  where
    f : ℕ → Option ℕ
    f = marked_byte old old_marks

    g : ℕ → Option ℕ
    g = marked_byte bytes marks

    same : (r j : ℕ) → from ≤ r → r < rows → j < 255 → marked_byte bytes marks (j * rows + r) ≡ marked_byte old old_marks (j * rows + r)
    same r j from_r low_r low = so_far.other j r low low_r (inr from_r)

    rows_same : (r : ℕ) → from ≤ r → r < rows → corrected_row rows (marked_byte bytes marks) r ≡ corrected_row rows (marked_byte old old_marks) r
    rows_same r from_r low_r = row_same rows (marked_byte bytes marks) (marked_byte old old_marks) r (λ j low. same r j from_r low_r low)

    data_same : (r : ℕ) → from ≤ r → r < rows → lacks_data rows (marked_byte bytes marks) r ≡ lacks_data rows (marked_byte old old_marks) r
    data_same r from_r low_r = lacks_same rows (marked_byte bytes marks) (marked_byte old old_marks) r (λ j low. same r j from_r low_r low)

    by_row : (j r : ℕ) → j < 191 → r < to → (r < from) ⊎ (from ≤ r)
        → marked_byte new new_marks (j * rows + r) ≡ corrected_byte rows (marked_byte old old_marks) (j * rows + r)
    by_row j r low low_r (inl before) = here.other j r (omega (arith, low)) (omega (arith, low_r, within)) (inl before) ∙ so_far.row j r low (omega arith) before
    by_row j r low low_r (inr after) =
        let r_low : r < rows = omega (arith, low_r, within) in
        here.row j r low after low_r
        ∙ byte_at rows (marked_byte bytes marks) r j r_low
        ∙ ap₂ (λ (o : Option (List ℕ)) (b : Option ℕ). byte_of_row o j b) (rows_same r after r_low) (same r j after r_low (omega (arith, low)))
        ∙ sym (byte_at rows (marked_byte old old_marks) r j r_low)

    by_out : (j r : ℕ) → j < 255 → r < rows → (r < 0) ⊎ (to ≤ r) → marked_byte new new_marks (j * rows + r) ≡ marked_byte old old_marks (j * rows + r)
    by_out j r low low_r (inl never) = absurd (omega (arith, never))
    by_out j r low low_r (inr after) = here.other j r low low_r (inr after) ∙ so_far.other j r low low_r (inr (omega (arith, after, order)))

    mended_all : (c : ℕ) → from + c ≡ to → m + n ≡ count_by (is_mended rows (marked_byte old old_marks)) (range_with_len 0 (from + c))
    mended_all c is =
        let e : 0 + from ≡ from = omega arith in
        let later : count_by (is_mended rows (marked_byte bytes marks)) (range_with_len from c) ≡ count_by (is_mended rows (marked_byte old old_marks)) (range_with_len from c) =
        count_same (is_mended rows (marked_byte bytes marks)) (is_mended rows (marked_byte old old_marks)) c from
        (λ i low.
        ap₂ (λ (b : Bool) (o : Option (List ℕ)). b && is_some o) (data_same (from + i) (omega arith) (omega (arith, is, low, within))) (rows_same (from + i) (omega arith) (omega (arith, is, low, within)))) in
        omega (
          arith,
          so_far.mended_are from e,
          here.mended_are c is,
          later,
          count_split (is_mended rows (marked_byte old old_marks)) from c 0,
          ap (λ (a : ℕ). count_by (is_mended rows (marked_byte old old_marks)) (range_with_len a c)) e,
        )

    left_all : (c : ℕ) → from + c ≡ to → l + k ≡ count_by (is_left rows (marked_byte old old_marks)) (range_with_len 0 (from + c))
    left_all c is =
        let e : 0 + from ≡ from = omega arith in
        let later : count_by (is_left rows (marked_byte bytes marks)) (range_with_len from c) ≡ count_by (is_left rows (marked_byte old old_marks)) (range_with_len from c) =
        count_same (is_left rows (marked_byte bytes marks)) (is_left rows (marked_byte old old_marks)) c from
        (λ i low.
        ap₂ (λ (b : Bool) (o : Option (List ℕ)). b && is_none o) (data_same (from + i) (omega arith) (omega (arith, is, low, within))) (rows_same (from + i) (omega arith) (omega (arith, is, low, within)))) in
        omega (
          arith,
          so_far.left_are from e,
          here.left_are c is,
          later,
          count_split (is_left rows (marked_byte old old_marks)) from c 0,
          ap (λ (a : ℕ). count_by (is_left rows (marked_byte old old_marks)) (range_with_len a c)) e,
        )
