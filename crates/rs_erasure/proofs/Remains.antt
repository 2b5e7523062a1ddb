-- What is left of a row where some places are eliminated, in the columns of the work.
use Rattle.std.proofs.Common.{ℕ, zero, suc, List, [], ◌∷◌, ◌≡◌, ◌⊎◌, ◌+◌, ◌-◌, ◌<◌, ◌≤◌, inl, inr, Bool, true, false, length, get_or, replicate, map, drop, refl, ap, ap₂, sym, ◌∙◌, arith, bit_xor, length-drop}
use Rattle.std.specs.Prelude.{if◌then◌else◌}
use Rattle.std.specs.Int.Bits.{xor_assoc, xor_zero_l, xor_zero_r}
use Rattle.fec_spec.specs.Field.{field_power, field_product}
use Rattle.fec_spec.specs.Row.{is_among}
use Rattle.fec_spec.specs.Table.{table_row}
use Rattle.field_law.proofs.Field.{power_more, product_assoc, product_comm, product_zero_left, product_zero_right}
use Rattle.erasure_law.specs.Roots.{combined, differences, eliminated, place_power, root_polynomial, syndromes_of}
use Rattle.erasure_law.proofs.Elimination.{value_fits}
use Rattle.erasure_law.proofs.Sums.{combined_is, sum_of, sum_more, sum_none, value_is_differences, weight_of}
use Rattle.erasure_law.proofs.Tables.{length-table_row}
use Rattle.erasure_law.proofs.Unique.{differences_none}
use Rattle.rs_erasure.specs.Columns.{cell}
use Rattle.rs_erasure.specs.Syndromes.{HasLeft, HasSyndromes}
use Rattle.rs_erasure.proofs.Decoding.{left_in_column, powers_behind}
use Rattle.rs_erasure.proofs.Runs.{get_or-row, no_root}

-- where the others were eliminated before, the other unknown places are eliminated next
pub left_given : (rows wanted : ℕ) (unknown powers table work : List ℕ) (r : ℕ) → powers ≡ map place_power unknown → wanted ≤ length unknown
    → HasLeft rows (drop wanted unknown) table work r
    → (j : ℕ) → length unknown - wanted ≤ j → j < 64
    → cell rows work j r ≡ combined (root_polynomial (drop (length powers - (length unknown - wanted)) powers)) (syndromes_of (table_row 255 rows table r)) (j - (length unknown - wanted))
left_given rows wanted unknown powers table work r is_powers some has j ge lt =
    let others : List ℕ = drop wanted unknown in
    let lowest : ℕ = length unknown - wanted in
    let lo : length others ≡ lowest = length-drop wanted unknown in
    let m : ℕ = j - lowest in
    let e : length others + m ≡ j = omega arith in
    let back : length unknown - lowest ≡ wanted = omega arith in
    let turned : drop (length powers - lowest) powers ≡ map place_power others = powers_behind unknown powers lowest is_powers ∙ ap (λ (k : ℕ). map place_power (drop k unknown)) back in
    ap (λ (k : ℕ). cell rows work k r) (sym e)
    ∙ has m (omega arith)
    ∙ ap (λ (l : List ℕ). combined (root_polynomial l) (syndromes_of (table_row 255 rows table r)) m) (sym turned)

-- the syndromes of a row, of which nothing was eliminated yet
pub values_given : (rows : ℕ) (roots table work : List ℕ) (r : ℕ) → HasSyndromes rows table work r
    → (j : ℕ) → 0 ≤ j → j < 64 → cell rows work j r ≡ combined (root_polynomial (drop (length roots - 0) roots)) (syndromes_of (table_row 255 rows table r)) (j - 0)
values_given rows roots table work r has j ge lt =
    has j lt ∙ no_root roots (syndromes_of (table_row 255 rows table r)) j (value_fits (field_power 2 j) (table_row 255 rows table r))

-- what is left where all of the places are eliminated
pub left_found : (rows : ℕ) (places powers table work : List ℕ) (r : ℕ) → powers ≡ map place_power places
    → ((j : ℕ) → 0 ≤ j → j < 64 → cell rows work j r ≡ combined (root_polynomial (drop (length powers - j) powers)) (syndromes_of (table_row 255 rows table r)) (j - length powers))
    → HasLeft rows places table work r
left_found rows places powers table work r is_powers is m few =
    let j : ℕ = length places + m in
    let e : length places - j ≡ 0 = omega arith in
    let n : j - length places ≡ m = omega arith in
    left_in_column places powers (syndromes_of (table_row 255 rows table r)) (λ (k : ℕ). cell rows work k r) j is_powers (is j (omega arith) (omega arith))
    ∙ ap₂ (λ (k i : ℕ). eliminated (drop k places) (syndromes_of (table_row 255 rows table r)) i) e n

-- ---- sums over the first columns

abbrev pub sum_to : (ℕ → ℕ) → ℕ → ℕ
sum_to f zero = 0
sum_to f (suc n) = bit_xor (sum_to f n) (f n)

pub sum_push : (f : ℕ → ℕ) (n : ℕ) → sum_to f (n + 1) ≡ bit_xor (sum_to f n) (f n)
sum_push f n = let e : n + 1 ≡ suc n = omega arith in ap (λ (k : ℕ). sum_to f k) e

sum_to_same : (f g : ℕ → ℕ) (n : ℕ) → ((i : ℕ) → i < n → f i ≡ g i) → sum_to f n ≡ sum_to g n
sum_to_same f g zero same = refl
sum_to_same f g (suc n) same = ap₂ (λ (s t : ℕ). bit_xor s t) (sum_to_same f g n (λ i lt. same i (omega arith))) (same n (omega arith))

-- the first term taken out
sum_first : (f : ℕ → ℕ) (n : ℕ) → sum_to f (suc n) ≡ bit_xor (f 0) (sum_to (λ (i : ℕ). f (suc i)) n)
sum_first f zero = xor_zero_l (f 0) ∙ sym (xor_zero_r (f 0))
sum_first f (suc n) =
    ap (λ (s : ℕ). bit_xor s (f (suc n))) (sum_first f n) ∙ xor_assoc (f 0) (sum_to (λ (i : ℕ). f (suc i)) n) (f (suc n))

sum_is : (w : ℕ → ℕ) (row : List ℕ) → sum_of w row ≡ sum_to (λ (i : ℕ). field_product (get_or row i 0) (w (length row - suc i))) (length row)
sum_is w [] = sum_none w
sum_is w (c ∷ row) =
    let n : ℕ = length row in
    let g : ℕ → ℕ = λ (i : ℕ). field_product (get_or (c ∷ row) i 0) (w (suc n - suc i)) in
    let e : n ≡ suc n - suc 0 = omega arith in
    sum_more w c row
    ∙ ap₂ (λ (s t : ℕ). bit_xor s t) (ap (λ (k : ℕ). field_product c (w k)) e)
    (sum_is w row
    ∙ sum_to_same (λ (i : ℕ). field_product (get_or row i 0) (w (n - suc i))) (λ (i : ℕ). g (suc i)) n
    (λ i lt. let k : n - suc i ≡ suc n - suc (suc i) = omega arith in ap (λ (t : ℕ). field_product (get_or row i 0) (w t)) k))
    ∙ sym (sum_first g n)

-- what the byte of a column leaves
abbrev pub left_term : List ℕ → ℕ → List ℕ → ℕ → ℕ → ℕ → ℕ
left_term places rows table r m i = field_product (field_product (field_power (place_power i) m) (differences (map place_power places) (place_power i))) (cell rows table i r)

-- what is left of a row is what all its bytes leave
pub left_is_sum : (places : List ℕ) (rows : ℕ) (table : List ℕ) (r m : ℕ) → eliminated places (syndromes_of (table_row 255 rows table r)) m ≡ sum_to (left_term places rows table r m) 255
left_is_sum places rows table r m =
    let row : List ℕ = table_row 255 rows table r in
    let p : List ℕ = root_polynomial (map place_power places) in
    let long : length row ≡ 255 = length-table_row 255 rows table r in
    combined_is p row m
    ∙ sum_is (weight_of p m) row
    ∙ ap (λ (n : ℕ). sum_to (λ (i : ℕ). field_product (get_or row i 0) (weight_of p m (n - suc i))) n) long
    ∙ sum_to_same (λ (i : ℕ). field_product (get_or row i 0) (weight_of p m (255 - suc i))) (left_term places rows table r m) 255
    (λ i lt.
    let e : 255 - suc i ≡ 254 - i = omega arith in
    let weight : ℕ = field_product (field_power (place_power i) m) (differences (map place_power places) (place_power i)) in
    let is : weight_of p m (255 - suc i) ≡ weight =
    ap (λ (k : ℕ). weight_of p m k) e ∙ ap (λ (t : ℕ). field_product (field_power (place_power i) m) t) (value_is_differences (map place_power places) (place_power i)) in
    ap₂ (λ (s t : ℕ). field_product s t) (get_or-row rows table r i lt) is ∙ product_comm (cell rows table i r) weight)

-- a byte that leaves nothing
pub none_left : (places : List ℕ) (rows : ℕ) (table : List ℕ) (r m i : ℕ) → (is_among i places ≡ true) ⊎ (cell rows table i r ≡ 0) → left_term places rows table r m i ≡ 0
none_left places rows table r m i (inl among) =
    let power : ℕ = field_power (place_power i) m in
    ap (λ (d : ℕ). field_product (field_product power d) (cell rows table i r)) (differences_none i places among)
    ∙ ap (λ (t : ℕ). field_product t (cell rows table i r)) (product_zero_right power) ∙ product_zero_left (cell rows table i r)
none_left places rows table r m i (inr none) =
    let weight : ℕ = field_product (field_power (place_power i) m) (differences (map place_power places) (place_power i)) in
    ap (λ (t : ℕ). field_product weight t) none ∙ product_zero_right weight

-- one power more
pub factor_more : (x d k : ℕ) → field_product x (field_product (field_power x k) d) ≡ field_product (field_power x (suc k)) d
factor_more x d k = sym (product_assoc x (field_power x k) d) ∙ ap (λ (t : ℕ). field_product t d) (sym (power_more x k))

-- ---- marks of columns

alike : (v j n : ℕ) → j < n → get_or (replicate n v) j 0 ≡ v
alike v zero zero lt = absurd (omega arith)
alike v (suc j) zero lt = absurd (omega arith)
alike v zero (suc n) lt = refl
alike v (suc j) (suc n) lt = alike v j n (omega arith)

-- where all marks are alike and not 0, and those of the places became 0, a mark is 0 at a place alone
pub marked_one : (v j : ℕ) (places : List ℕ) → j < 255 → (v ≡ 0 → ⊥) → ◌≡◌ {A = ℕ} (if is_among j places then 0 else get_or (replicate 255 v) j 0) 0 → is_among j places ≡ true
marked_one v j places low some none = by (is_among j places) none
  where
    by : (b : Bool) → ◌≡◌ {A = ℕ} (if b then 0 else get_or (replicate 255 v) j 0) 0 → b ≡ true
    by true h = refl
    by false h = absurd (some (sym (alike v j 255 low) ∙ h))
