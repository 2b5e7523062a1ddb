-- One unknown place of a row corrected.
use Rattle.std.proofs.Common.{ℕ, zero, suc, List, [], ◌∷◌, ◌≡◌, ◌+◌, ◌-◌, ◌^◌, ◌<◌, ◌≤◌, ◌==◌, ◌||◌, inl, inr, Bool, true, false, length, get_or, map, drop, refl, ap, ap₂, sym, subst, ◌∙◌, arith, bit_xor, length-drop, get_or-drop}
use Rattle.std.specs.List.{All}
use Rattle.std.specs.List.Sorted.{IsStrictlyIncreasing}
use Rattle.std.specs.Int.Bits.{xor_self, xor_zero_r}
use Rattle.std.proofs.lemmas.Bool.{cases_eq, cases_lt, ne_eqb, or_right}
use Rattle.std.proofs.lemmas.List.{drop-map, get_or-map}
use Rattle.std.proofs.lemmas.Map.Keys.{sorted_from_strictly_increasing, below_from_sorted}
use Rattle.fec_spec.specs.Field.{field_product}
use Rattle.fec_spec.specs.Row.{is_among}
use Rattle.fec_spec.specs.Table.{table_row}
use Rattle.field_law.proofs.Field.{product_assoc, product_comm, product_one_left, product_zero_right}
use Rattle.erasure_law.specs.Roots.{differences, eliminated, place_power, syndromes_of}
use Rattle.erasure_law.proofs.Unique.{clash, differences_some, length-map_powers, same_list}
use Rattle.erasure_law.proofs.Elimination.{eliminated_agree, eliminated_changed}
use Rattle.erasure_law.proofs.Tables.{length-table_row}
use Rattle.rs_erasure.specs.Columns.{IsColumnChanged, cell}
use Rattle.rs_erasure.specs.Correction.{IsBeingCorrected}
use Rattle.rs_erasure.proofs.Filling.{all_low, among_at}
use Rattle.rs_erasure.proofs.Runs.{cell_fits, get_or-row}

-- ---- places of a list

pub among_of_drop : (k : ℕ) (xs : List ℕ) (j : ℕ) → is_among j (drop k xs) ≡ true → is_among j xs ≡ true
among_of_drop zero xs j h = h
among_of_drop (suc k) [] j h = h
among_of_drop (suc k) (x ∷ xs) j h = or_right (j == x) (is_among j xs) (among_of_drop k xs j h)

not_among : (x : ℕ) (ys : List ℕ) → ((k : ℕ) → k < length ys → get_or ys k 0 ≡ x → ⊥) → is_among x ys ≡ false
not_among x [] h = refl
not_among x (y ∷ ys) h = ap₂ (λ (a : Bool) (b : Bool). a || b) (ne_eqb x y (λ e. h 0 (omega arith) (sym e))) (not_among x ys (λ k lt. h (suc k) (omega arith)))

-- a place is among those from an earlier one on
pub among_drop : (xs : List ℕ) (at k : ℕ) → at < length xs → k ≤ at → is_among (get_or xs at 0) (drop k xs) ≡ true
among_drop xs at k lt le =
    let l : length (drop k xs) ≡ length xs - k = length-drop k xs in
    let e : k + (at - k) ≡ at = omega arith in
    ap (λ x. is_among x (drop k xs)) (sym (get_or-drop k xs (at - k) 0 ∙ ap (λ n. get_or xs n 0) e))
    ∙ among_at (drop k xs) (at - k) (omega arith)

-- and not among those after it, where they rise
not_behind : (xs : List ℕ) (at : ℕ) → IsStrictlyIncreasing xs → at < length xs → is_among (get_or xs at 0) (drop (at + 1) xs) ≡ false
not_behind xs at rising lt =
    let l : length (drop (at + 1) xs) ≡ length xs - (at + 1) = length-drop (at + 1) xs in
    not_among (get_or xs at 0) (drop (at + 1) xs) (λ k low e.
    let more : get_or xs at 0 < get_or xs (at + 1 + k) 0 = below_from_sorted xs at (at + 1 + k) 0 (sorted_from_strictly_increasing xs rising) (omega arith) (omega arith) in
    let is : get_or xs (at + 1 + k) 0 ≡ get_or xs at 0 = sym (get_or-drop (at + 1) xs k 0) ∙ e in
    absurd (omega arith))

-- so its power differs from theirs
pub behind_some : (unknown : List ℕ) (at : ℕ) → IsStrictlyIncreasing unknown → All (λ p. p < 255) unknown → at < length unknown
    → differences (map place_power (drop (at + 1) unknown)) (place_power (get_or unknown at 0)) ≡ 0 → ⊥
behind_some unknown at rising low lt =
    differences_some (get_or unknown at 0) (drop (at + 1) unknown) (low at 0 lt)
    (λ j a. all_low 255 unknown low j (among_of_drop (at + 1) unknown j a))
    (not_behind unknown at rising lt)

-- ---- one place corrected

-- the differences of the place at `at` and the last j places
abbrev pub last_differences : List ℕ → ℕ → ℕ → ℕ
last_differences unknown at j = differences (map place_power (drop (length unknown - j) unknown)) (place_power (get_or unknown at 0))

product_turned : (d scale c : ℕ) → field_product (field_product scale c) d ≡ field_product (field_product d scale) c
product_turned d scale c = product_comm (field_product scale c) d ∙ sym (product_assoc d scale c)

-- what one step does to a row and its columns
pub record IsStep (unknown : List ℕ) (lowest at scale : ℕ) (row new : List ℕ) (column after : ℕ → ℕ) : Type 0 where
  pub row_long : length row ≡ 255
  pub new_long : length new ≡ 255
  pub place : get_or unknown at 0 < 255
  pub others : (j : ℕ) → j < 255 → (j ≡ get_or unknown at 0 → ⊥) → get_or row j 0 ≡ get_or new j 0
  pub added : get_or new (get_or unknown at 0) 0 ≡ bit_xor (get_or row (get_or unknown at 0) 0) (field_product scale (column (length unknown - 1 - at)))
  pub inverse : field_product (last_differences unknown at (length unknown - 1 - at)) scale ≡ 1
  pub byte : column (length unknown - 1 - at) < 2 ^ 8
  pub before : (j : ℕ) → lowest ≤ j → j < length unknown - 1 - at → after j ≡ bit_xor (column j) (field_product (field_product (last_differences unknown at j) scale) (column (length unknown - 1 - at)))
  pub kept : (j : ℕ) → length unknown - 1 - at ≤ j → after j ≡ column j

-- the place is among the last ones, and nothing changes
unchanged_behind : (unknown : List ℕ) (lowest at scale : ℕ) (row new : List ℕ) (column after : ℕ → ℕ) (k m : ℕ) → at < length unknown → k ≤ at
    → IsStep unknown lowest at scale row new column after
    → eliminated (drop k unknown) (syndromes_of new) m ≡ eliminated (drop k unknown) (syndromes_of row) m
unchanged_behind unknown lowest at scale row new column after k m lt le step =
    sym (eliminated_agree (drop k unknown) row new m step.row_long step.new_long
    (λ j low out. step.others j low (λ e. clash (ap (λ x. is_among x (drop k unknown)) e ∙ among_drop unknown at k lt le) out)))

-- what is left changes by the added byte
changed_before : (unknown : List ℕ) (lowest at scale : ℕ) (row new : List ℕ) (column after : ℕ → ℕ) (j : ℕ)
    → IsStep unknown lowest at scale row new column after
    → eliminated (drop (length unknown - j) unknown) (syndromes_of new) 0
    ≡ bit_xor (eliminated (drop (length unknown - j) unknown) (syndromes_of row) 0) (field_product (field_product (last_differences unknown at j) scale) (column (length unknown - 1 - at)))
changed_before unknown lowest at scale row new column after j step =
    let c : ℕ = column (length unknown - 1 - at) in
    let places : List ℕ = drop (length unknown - j) unknown in
    eliminated_changed places row new (get_or unknown at 0) (field_product scale c) step.row_long step.new_long step.place step.others step.added
    ∙ ap (λ t. bit_xor (eliminated places (syndromes_of row) 0) t) (product_turned (last_differences unknown at j) scale c)

pub place_corrected : (unknown : List ℕ) (lowest at scale : ℕ) (row new : List ℕ) (column after : ℕ → ℕ) → at + lowest < length unknown
    → IsStep unknown lowest at scale row new column after → IsBeingCorrected unknown lowest at row column → IsBeingCorrected unknown lowest (at + 1) new after
place_corrected unknown lowest at scale row new column after lt step is =
    let u : ℕ = length unknown in
    let n : ℕ = u - 1 - at in
    let c : ℕ = column n in
    let within : at < length unknown = omega arith in
    record {
      to_do = λ j from low.
          step.before j from (omega arith)
          ∙ ap (λ t. bit_xor t (field_product (field_product (last_differences unknown at j) scale) c)) (is.to_do j from (omega arith))
          ∙ sym (changed_before unknown lowest at scale row new column after j step);
      done = λ j ge low. elim (cases_lt j (u - at)) [
        | inl here ↦
            let e : j ≡ n = omega arith in
            let one : field_product (field_product (last_differences unknown at j) scale) c ≡ c =
            ap (λ k. field_product (field_product (last_differences unknown at k) scale) c) e ∙ ap (λ t. field_product t c) step.inverse ∙ product_one_left c step.byte in
            changed_before unknown lowest at scale row new column after j step
            ∙ ap₂ (λ s t. bit_xor s t) (sym (is.to_do j (omega arith) here) ∙ ap column e) one
            ∙ xor_self c
        | inr behind ↦ unchanged_behind unknown lowest at scale row new column after (u - j) 0 within (omega arith) step ∙ is.done j behind low
      ];
      rest = λ m low. unchanged_behind unknown lowest at scale row new column after 0 m within (omega arith) step ∙ is.rest m low;
    }

-- where the columns are 0 nothing changes
pub place_kept : (unknown : List ℕ) (lowest at scale : ℕ) (row new : List ℕ) (column after : ℕ → ℕ) → at + lowest < length unknown
    → IsStep unknown lowest at scale row new column after → ((j : ℕ) → lowest ≤ j → j < length unknown → column j ≡ 0)
    → ((j : ℕ) → lowest ≤ j → j < length unknown → after j ≡ 0) × (new ≡ row)
place_kept unknown lowest at scale row new column after lt step none =
    let u : ℕ = length unknown in
    let n : ℕ = u - 1 - at in
    let zero_here : column n ≡ 0 = none n (omega arith) (omega arith) in
    let long : length new ≡ 255 = step.new_long in
    let same : (j : ℕ) → j < length new → get_or new j 0 ≡ get_or row j 0 = λ j low.
    elim (cases_eq j (get_or unknown at 0)) [
      | inl e ↦
          ap (λ k. get_or new k 0) e ∙ step.added
          ∙ ap (λ t. bit_xor (get_or row (get_or unknown at 0) 0) t) (ap (λ t. field_product scale t) zero_here ∙ product_zero_right scale)
          ∙ xor_zero_r (get_or row (get_or unknown at 0) 0) ∙ ap (λ k. get_or row k 0) (sym e)
      | inr ne ↦ sym (step.others j (omega arith) ne)
    ] in (
      λ j from low. elim (cases_lt j n) [
        | inl before ↦
            let f : ℕ = field_product (last_differences unknown at j) scale in
            step.before j from before ∙ ap₂ (λ s t. bit_xor s t) (none j from low) (ap (λ t. field_product f t) zero_here ∙ product_zero_right f)
        | inr behind ↦ step.kept j behind ∙ none j from low
      ],
      same_list new row (step.new_long ∙ sym step.row_long) same,
    )

-- the differences of the powers
pub roots_are : (unknown roots : List ℕ) (at k : ℕ) → roots ≡ map place_power unknown → at < length unknown
    → differences (drop k roots) (get_or roots at 0) ≡ differences (map place_power (drop k unknown)) (place_power (get_or unknown at 0))
roots_are unknown roots at k e lt =
    ap (λ (l : List ℕ). differences (drop k l) (get_or l at 0)) e
    ∙ ap₂ (λ (l : List ℕ) (y : ℕ). differences l y) (drop-map place_power k unknown) (get_or-map place_power unknown at 0 0 lt)

-- a step on columns is a step on each row of the run
pub column_step : (rows from to : ℕ) (unknown roots table table' work work' : List ℕ) (lowest at scale place r : ℕ)
    → IsColumnChanged rows from to place (λ i. bit_xor (cell rows table place i) (field_product scale (cell rows work (length unknown - 1 - at) i))) table table'
    → place ≡ get_or unknown at 0 → All (λ p. p < 255) unknown → at < length unknown → from ≤ r → r < to → to ≤ rows
    → roots ≡ map place_power unknown → field_product (differences (drop (at + 1) roots) (get_or roots at 0)) scale ≡ 1
    → ((i : ℕ) → get_or work' i 0 < 2 ^ 8)
    → ((j : ℕ) → lowest ≤ j → j < length unknown - 1 - at → cell rows work' j r
    ≡ bit_xor (cell rows work j r) (field_product (field_product (differences (drop (length roots - j) roots) (get_or roots at 0)) scale) (cell rows work (length unknown - 1 - at) r)))
    → ((j : ℕ) → length unknown - 1 - at ≤ j → cell rows work' j r ≡ cell rows work j r)
    → IsStep unknown lowest at scale (table_row 255 rows table r) (table_row 255 rows table' r) (λ j. cell rows work j r) (λ j. cell rows work' j r)
column_step rows from to unknown roots table table' work work' lowest at scale place r changed is_place low lt ge lo within powers one bytes before kept =
    let n : ℕ = length unknown - 1 - at in
    let x : ℕ = get_or unknown at 0 in
    let x_low : x < 255 = low at 0 lt in
    let long : length roots ≡ length unknown = ap (λ (l : List ℕ). length l) powers ∙ length-map_powers unknown in
    let last : length unknown - n ≡ at + 1 = omega arith in
    record {
      row_long = length-table_row 255 rows table r;
      new_long = length-table_row 255 rows table' r;
      place = x_low;
      others = λ j jl ne.
          get_or-row rows table r j jl
          ∙ sym (changed.elsewhere j r (omega arith) (λ e g l. ne (e ∙ is_place)))
          ∙ sym (get_or-row rows table' r j jl);
      added =
          get_or-row rows table' r x x_low
          ∙ ap (λ k. cell rows table' k r) (sym is_place)
          ∙ changed.here r ge lo
          ∙ ap (λ k. bit_xor (cell rows table k r) (field_product scale (cell rows work n r))) is_place
          ∙ ap (λ t. bit_xor t (field_product scale (cell rows work n r))) (sym (get_or-row rows table r x x_low));
      inverse =
          ap (λ k. field_product (differences (map place_power (drop k unknown)) (place_power x)) scale) last
          ∙ ap (λ t. field_product t scale) (sym (roots_are unknown roots at (at + 1) powers lt))
          ∙ one;
      byte = subst (λ t. t < 2 ^ 8) (kept n (omega arith)) (cell_fits rows work' n r bytes);
      before = λ j above jl.
          before j above jl
          ∙ ap (λ t. bit_xor (cell rows work j r) (field_product (field_product t scale) (cell rows work n r)))
          (ap (λ k. differences (drop (k - j) roots) (get_or roots at 0)) long ∙ roots_are unknown roots at (length unknown - j) powers lt);
      kept = kept;
    }
