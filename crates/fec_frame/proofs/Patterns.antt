-- The columns that a row lacks, and runs of rows that lack the same.
use Rattle.std.proofs.Common.{◌≡◌, ℕ, zero, suc, ◌+◌, ◌-◌, ◌*◌, ◌<◌, Bool, true, false, not, ◌||◌, cond, leb, List, [], ◌∷◌, ◌++◌, length, length-drop, get_or, get_or-drop, drop, map, filter, Option, Some, None, refl, ap, ap₂, sym, subst, ◌∙◌, arith}
use Rattle.std.specs.Prelude.{is_none}
use Rattle.std.specs.List.{range_with_len, list_any, All}
use Rattle.std.specs.List.Sorted.{IsStrictlyIncreasing}
use Rattle.std.proofs.lemmas.Bool.{or_from}
use Rattle.std.proofs.lemmas.List.{map-id}
use Rattle.std.proofs.lemmas.List.Elements.{filter-append, filter_agree, All-filter, All-from_get_or}
use Rattle.std.proofs.lemmas.List.Kept.{IsStrictlyIncreasing-filter}
use Rattle.std.proofs.lemmas.List.FromFn.{map-range_with_len_more, get_or-range_with_len, length-range_with_len}
use Rattle.fec_frame_spec.specs.Corrected.{known_row, unknown_columns, corrected_row, codeword_with, lacks_data}
use Rattle.fec_frame.specs.Marks.{is_known_mark, marked_byte}
use Rattle.fec_frame.specs.Runs.{unmarked}

range_more : (n : ℕ) → range_with_len 0 (n + 1) ≡ range_with_len 0 n ++ n ∷ []
range_more n = sym (map-id (range_with_len 0 (n + 1))) ∙ map-range_with_len_more (λ (j : ℕ). j) 0 n n (omega arith) ∙ ap (λ (l : List ℕ). l ++ n ∷ []) (map-id (range_with_len 0 n))

by_mark : (known : Bool) (j : ℕ) → cond (not known) (j ∷ []) [] ≡ cond known [] (j ∷ [])
by_mark true j = refl
by_mark false j = refl

pub unmarked_more : (rows : ℕ) (marks : List ℕ) (r n : ℕ) → unmarked rows marks r (n + 1) ≡ unmarked rows marks r n ++ cond (is_known_mark (get_or marks (n * rows + r) 0)) [] (n ∷ [])
unfolding unmarked
unmarked_more rows marks r n =
    let test : ℕ → Bool = λ j. not (is_known_mark (get_or marks (j * rows + r) 0)) in
    ap (filter test) (range_more n) ∙ filter-append test (range_with_len 0 n) (n ∷ [])
    ∙ ap (λ (l : List ℕ). filter test (range_with_len 0 n) ++ l) (by_mark (is_known_mark (get_or marks (n * rows + r) 0)) n)

pub unmarked_none : (rows : ℕ) (marks : List ℕ) (r : ℕ) → unmarked rows marks r 0 ≡ []
unfolding unmarked
unmarked_none rows marks r = refl

none_by : (known : Bool) (byte : ℕ) → not known ≡ is_none (cond known (Some byte) None)
none_by true byte = refl
none_by false byte = refl

pub unmarked_is : (rows : ℕ) (bytes marks : List ℕ) (r : ℕ) → unmarked rows marks r 255 ≡ unknown_columns rows (marked_byte bytes marks) r
unfolding unmarked unknown_columns marked_byte
unmarked_is rows bytes marks r =
    filter_agree (λ (j : ℕ). not (is_known_mark (get_or marks (j * rows + r) 0))) (λ (j : ℕ). is_none (cond (is_known_mark (get_or marks (j * rows + r) 0)) (Some (get_or bytes (j * rows + r) 0)) None))
    (λ j. none_by (is_known_mark (get_or marks (j * rows + r) 0)) (get_or bytes (j * rows + r) 0)) (range_with_len 0 255)

range_low : All (λ (p : ℕ). p < 255) (range_with_len 0 255)
range_low = All-from_get_or (λ (p : ℕ). p < 255) (range_with_len 0 255) 0 (λ i below. omega (arith, get_or-range_with_len 0 255 i 0 (omega (arith, below, length-range_with_len 0 255)), length-range_with_len 0 255, below))

pub unmarked_low : (rows : ℕ) (marks : List ℕ) (r : ℕ) → All (λ (p : ℕ). p < 255) (unmarked rows marks r 255)
unfolding unmarked
unmarked_low rows marks r = All-filter (λ (j : ℕ). not (is_known_mark (get_or marks (j * rows + r) 0))) (λ (p : ℕ). p < 255) (range_with_len 0 255) range_low

range_rises : (n : ℕ) → IsStrictlyIncreasing (range_with_len 0 n)
range_rises n k within =
    omega (
      arith,
      get_or-range_with_len 0 n k 0 (omega (arith, within, length-range_with_len 0 n)),
      get_or-range_with_len 0 n (k + 1) 0 (omega (arith, within, length-range_with_len 0 n)),
    )

pub unmarked_rise : (rows : ℕ) (marks : List ℕ) (r : ℕ) → IsStrictlyIncreasing (unmarked rows marks r 255)
unfolding unmarked
unmarked_rise rows marks r = IsStrictlyIncreasing-filter (λ (j : ℕ). not (is_known_mark (get_or marks (j * rows + r) 0))) (range_with_len 0 255) (range_rises 255)

-- Lists over a range depend on what is said of its numbers.

filter_range : (p q : ℕ → Bool) (n a : ℕ) → ((i : ℕ) → i < n → p (a + i) ≡ q (a + i)) → filter p (range_with_len a n) ≡ filter q (range_with_len a n)
filter_range p q zero a same = refl
filter_range p q (suc n) a same =
    let e : a + 0 ≡ a = omega arith in
    ap₂ (λ (b : Bool) (l : List ℕ). cond b (a ∷ l) l) (ap p (sym e) ∙ same 0 (omega arith) ∙ ap q e)
    (filter_range p q n (a + 1) (λ i low. let t : a + 1 + i ≡ a + suc i = omega arith in ap p t ∙ same (suc i) (omega (arith, low)) ∙ ap q (sym t)))

map_range : {X : Type 0} (f g : ℕ → X) (n a : ℕ) → ((i : ℕ) → i < n → f (a + i) ≡ g (a + i)) → map f (range_with_len a n) ≡ map g (range_with_len a n)
map_range f g zero a same = refl
map_range f g (suc n) a same =
    let e : a + 0 ≡ a = omega arith in
    ap₂ (λ x l. x ∷ l) (ap f (sym e) ∙ same 0 (omega arith) ∙ ap g e)
    (map_range f g n (a + 1) (λ i low. let t : a + 1 + i ≡ a + suc i = omega arith in ap f t ∙ same (suc i) (omega (arith, low)) ∙ ap g (sym t)))

any_range : (p q : ℕ → Bool) (n a : ℕ) → ((i : ℕ) → i < n → p (a + i) ≡ q (a + i)) → list_any p (range_with_len a n) ≡ list_any q (range_with_len a n)
any_range p q zero a same = refl
any_range p q (suc n) a same =
    let e : a + 0 ≡ a = omega arith in
    ap₂ (λ (x y : Bool). x || y) (ap p (sym e) ∙ same 0 (omega arith) ∙ ap q e)
    (any_range p q n (a + 1) (λ i low. let t : a + 1 + i ≡ a + suc i = omega arith in ap p t ∙ same (suc i) (omega (arith, low)) ∙ ap q (sym t)))

pub none_range : (p : ℕ → Bool) (n a : ℕ) → ((i : ℕ) → i < n → p (a + i) ≡ false) → list_any p (range_with_len a n) ≡ false
none_range p zero a none = refl
none_range p (suc n) a none =
    let e : a + 0 ≡ a = omega arith in
    or_from (p a) (list_any p (range_with_len (a + 1) n)) (ap p (sym e) ∙ none 0 (omega arith))
    (none_range p n (a + 1) (λ i low. let t : a + 1 + i ≡ a + suc i = omega arith in ap p t ∙ none (suc i) (omega (arith, low))))

pub some_range : (p : ℕ → Bool) (n a i : ℕ) → i < n → p (a + i) ≡ true → list_any p (range_with_len a n) ≡ true
some_range p zero a i low passes = absurd (omega (arith, low))
some_range p (suc n) a zero low passes =
    let e : a ≡ a + 0 = omega arith in ap (λ (b : Bool). b || list_any p (range_with_len (a + 1) n)) (ap p e ∙ passes)
some_range p (suc n) a (suc i) low passes =
    let t : a + 1 + i ≡ a + suc i = omega arith in
    by_first (p a) (some_range p n (a + 1) i (omega (arith, low)) (ap p t ∙ passes))
  where
    by_first : (b : Bool) → list_any p (range_with_len (a + 1) n) ≡ true → (b || list_any p (range_with_len (a + 1) n)) ≡ true
    by_first true later = refl
    by_first false later = later

-- Rows depend on their own bytes alone.

module _ (rows : ℕ) (f g : ℕ → Option ℕ) (r : ℕ) (same : (j : ℕ) → j < 255 → f (j * rows + r) ≡ g (j * rows + r)) where
  at : (j : ℕ) → j < 255 → f ((0 + j) * rows + r) ≡ g ((0 + j) * rows + r)
  at j low = let e : 0 + j ≡ j = omega arith in ap (λ (i : ℕ). f (i * rows + r)) e ∙ same j low ∙ ap (λ (i : ℕ). g (i * rows + r)) (sym e)

  pub row_same : corrected_row rows f r ≡ corrected_row rows g r
  unfolding corrected_row known_row unknown_columns
  row_same =
      ap₂ (λ (l : List ℕ) (k : List (Option ℕ)). cond (leb (length l) 64) (codeword_with k) None)
      (filter_range (λ (j : ℕ). is_none (f (j * rows + r))) (λ (j : ℕ). is_none (g (j * rows + r))) 255 0 (λ i low. ap (λ (o : Option ℕ). is_none o) (at i low)))
      (map_range (λ (j : ℕ). f (j * rows + r)) (λ (j : ℕ). g (j * rows + r)) 255 0 at)

  pub lacks_same : lacks_data rows f r ≡ lacks_data rows g r
  unfolding lacks_data
  lacks_same =
      any_range (λ (j : ℕ). is_none (f (j * rows + r))) (λ (j : ℕ). is_none (g (j * rows + r))) 191 0 (λ i low. ap (λ (o : Option ℕ). is_none o) (at i (omega (arith, low))))

-- columns that two rows lack are the same, where they lack the same
pub columns_same : (rows : ℕ) (f : ℕ → Option ℕ) (r s : ℕ) → ((j : ℕ) → j < 255 → is_none (f (j * rows + r)) ≡ is_none (f (j * rows + s))) → unknown_columns rows f r ≡ unknown_columns rows f s
unfolding unknown_columns
columns_same rows f r s same =
    filter_range (λ (j : ℕ). is_none (f (j * rows + r))) (λ (j : ℕ). is_none (f (j * rows + s))) 255 0
    (λ i low. let e : 0 + i ≡ i = omega arith in
    ap (λ (j : ℕ). is_none (f (j * rows + r))) e ∙ same i low ∙ ap (λ (j : ℕ). is_none (f (j * rows + s))) (sym e))

-- so are those from a place on
pub low_behind : (n a : ℕ) (xs : List ℕ) → All (λ (p : ℕ). p < n) xs → All (λ (p : ℕ). p < n) (drop a xs)
low_behind n a xs low = λ i d lt.
    let l : length (drop a xs) ≡ length xs - a = length-drop a xs in
    subst (λ (t : ℕ). t < n) (sym (get_or-drop a xs i d)) (low (a + i) d (omega arith))
