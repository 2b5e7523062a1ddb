-- One step of the division in each row of a table that is read round.
use Rattle.std.proofs.Common.{ℕ, List, ◌++◌, ◌≡◌, ◌+◌, ◌-◌, ◌*◌, ◌%◌, ◌<◌, ◌≤◌, inl, inr, length, get_or, arith, ap, ap₂, ◌∙◌, sym, bit_xor, subst, lit<, refl}
use Rattle.std.specs.Int.Bits.{xor_assoc, xor_self, xor_zero_r}
use Rattle.std.proofs.lemmas.Nat.{xor_comm}
use Rattle.std.proofs.lemmas.Bool.{cases_lt}
use Rattle.std.proofs.lemmas.List.{get_or_past}
use Rattle.std.proofs.lemmas.List.Elements.{All-from_get_or}
use Rattle.fec_spec.specs.Field.{field_product}
use Rattle.field_law.proofs.Field.{product_comm, product_one_left}
use Rattle.rs_encode.specs.Division.{IsNext}
use Rattle.rs_encode.specs.Ring.{ring_row}
use Rattle.rs_encode.proofs.TableRows.{place_below}
use Rattle.rs_encode.proofs.Parts.{part-before, part-within, part-behind}
use Rattle.rs_encode.proofs.Rings.{length-ring_row, ring_row-at}

-- each column is added the coefficient's multiple of one, the coefficients from a place on
pub record IsAdded (rows from count : ℕ) (generator factors old new : List ℕ) : Type 0 where
  pub each : (k r : ℕ) → k < count → r < rows
      → get_or new (k * rows + r) 0 ≡ bit_xor (get_or old (k * rows + r) 0) (field_product (get_or generator (from + k) 0) (get_or factors r 0))

-- the three parts of a table, before and after a step: factors is what the middle one holds in between
pub record IsStep (first rows : ℕ) (generator column b f e factors b' f' e' : List ℕ) : Type 0 where
  pub first_fits : first < 64
  pub long_b : length b ≡ first * rows
  pub long_f : length f ≡ rows
  pub long_b' : length b' ≡ first * rows
  pub long_f' : length f' ≡ rows
  pub small : (r : ℕ) → get_or column r 0 < 256
  pub factor : (r : ℕ) → r < rows → get_or factors r 0 ≡ bit_xor (get_or f r 0) (field_product 1 (get_or column r 0))
  pub behind : IsAdded rows 0 (63 - first) generator factors e e'
  pub before : IsAdded rows (63 - first) first generator factors b b'
  pub last : (r : ℕ) → r < rows
      → get_or f' r 0 ≡ bit_xor (bit_xor (field_product (get_or factors r 0) (get_or generator 63 0)) (get_or column r 0)) (field_product 1 (get_or column r 0))
  pub bytes : (i : ℕ) → get_or (b' ++ (f' ++ e')) i 0 < 256

-- a byte added twice is away
twice_away : (x c : ℕ) → bit_xor (bit_xor x c) c ≡ x
twice_away x c = xor_assoc x c c ∙ ap (λ t. bit_xor x t) (xor_self c) ∙ xor_zero_r x

-- the sum that a byte of the next row is, from what was added
turned : (x g f : ℕ) → bit_xor x (field_product g f) ≡ bit_xor (field_product f g) x
turned x g f = xor_comm x (field_product g f) ∙ ap (λ t. bit_xor t x) (product_comm g f)

pub step_is : (first rows : ℕ) (generator column b f e factors b' f' e' : List ℕ)
    → IsStep first rows generator column b f e factors b' f' e' → (r : ℕ) → r < rows
    → IsNext generator (ring_row first rows (b ++ (f ++ e)) r) (get_or column r 0) (ring_row ((first + 1) % 64) rows (b' ++ (f' ++ e')) r)
step_is first rows generator column b f e factors b' f' e' is r low =
    let old : List ℕ = b ++ (f ++ e) in
    let new : List ℕ = b' ++ (f' ++ e') in
    let state : List ℕ = ring_row first rows old r in
    let next : List ℕ = ring_row ((first + 1) % 64) rows new r in
    let byte : ℕ = get_or column r 0 in
    let factor : ℕ = bit_xor byte (get_or state 0 0) in
    let low_first : first < 64 = is.first_fits in
    -- the factor of the row
    let e0 : (first + 0) % 64 ≡ first = omega arith in
    let front : get_or state 0 0 ≡ get_or f r 0 =
    ring_row-at first rows old r 0 (lit< tt) ∙ ap (λ j. get_or old (j * rows + r) 0) e0 ∙ part-within first rows b f e r is.long_b is.long_f low in
    let one : field_product 1 byte ≡ byte = product_one_left byte (is.small r) in
    let factor_is : get_or factors r 0 ≡ factor =
    is.factor r low ∙ ap₂ (λ x y. bit_xor x y) (sym front) one ∙ xor_comm (get_or state 0 0) byte in
    -- a column after the factors
    let after : (k : ℕ) → k < 63 - first → get_or next k 0 ≡ bit_xor (field_product factor (get_or generator k 0)) (get_or state (k + 1) 0) =
    λ k h.
    let j1 : ((first + 1) % 64 + k) % 64 ≡ first + 1 + k = omega arith in
    let j2 : (first + (k + 1)) % 64 ≡ first + 1 + k = omega arith in
    let k0 : 0 + k ≡ k = omega arith in
    let there : get_or state (k + 1) 0 ≡ get_or e (k * rows + r) 0 =
    ring_row-at first rows old r (k + 1) (omega arith) ∙ ap (λ j. get_or old (j * rows + r) 0) j2
    ∙ part-behind first rows b f e r (first + 1 + k) k is.long_b is.long_f refl in
    ring_row-at ((first + 1) % 64) rows new r k (omega arith) ∙ ap (λ j. get_or new (j * rows + r) 0) j1
    ∙ part-behind first rows b' f' e' r (first + 1 + k) k is.long_b' is.long_f' refl
    ∙ is.behind.each k r h low
    ∙ ap₂ (λ x y. bit_xor x (field_product (get_or generator y 0) (get_or factors r 0))) (sym there) k0
    ∙ turned (get_or state (k + 1) 0) (get_or generator k 0) (get_or factors r 0)
    ∙ ap (λ t. bit_xor (field_product t (get_or generator k 0)) (get_or state (k + 1) 0)) factor_is in
    -- a column before them
    let earlier : (k : ℕ) → 63 - first ≤ k → k < 63 → get_or next k 0 ≡ bit_xor (field_product factor (get_or generator k 0)) (get_or state (k + 1) 0) =
    λ k h h63.
    let n : ℕ = k - (63 - first) in
    let n_low : n < first = omega arith in
    let j1 : ((first + 1) % 64 + k) % 64 ≡ n = omega arith in
    let j2 : (first + (k + 1)) % 64 ≡ n = omega arith in
    let k0 : 63 - first + n ≡ k = omega arith in
    let place : n * rows + r < first * rows = place_below first rows n r n_low low in
    let there : get_or state (k + 1) 0 ≡ get_or b (n * rows + r) 0 =
    ring_row-at first rows old r (k + 1) (omega arith) ∙ ap (λ j. get_or old (j * rows + r) 0) j2
    ∙ part-before first rows b f e r n is.long_b low n_low place in
    ring_row-at ((first + 1) % 64) rows new r k (omega arith) ∙ ap (λ j. get_or new (j * rows + r) 0) j1
    ∙ part-before first rows b' f' e' r n is.long_b' low n_low place
    ∙ is.before.each n r n_low low
    ∙ ap₂ (λ x y. bit_xor x (field_product (get_or generator y 0) (get_or factors r 0))) (sym there) k0
    ∙ turned (get_or state (k + 1) 0) (get_or generator k 0) (get_or factors r 0)
    ∙ ap (λ t. bit_xor (field_product t (get_or generator k 0)) (get_or state (k + 1) 0)) factor_is in
    -- the column of the factors
    let last : (k : ℕ) → k ≡ 63 → get_or next k 0 ≡ bit_xor (field_product factor (get_or generator k 0)) (get_or state (k + 1) 0) =
    λ k is63.
    let j1 : ((first + 1) % 64 + 63) % 64 ≡ first = omega arith in
    let past : get_or state 64 0 ≡ 0 = get_or_past state 64 0 (omega (arith, length-ring_row first rows old r)) in
    let at63 : get_or next 63 0 ≡ bit_xor (field_product factor (get_or generator 63 0)) (get_or state 64 0) =
    ring_row-at ((first + 1) % 64) rows new r 63 (lit< tt) ∙ ap (λ j. get_or new (j * rows + r) 0) j1
    ∙ part-within first rows b' f' e' r is.long_b' is.long_f' low
    ∙ is.last r low
    ∙ ap₂ (λ x y. bit_xor (bit_xor (field_product x (get_or generator 63 0)) byte) y) factor_is one
    ∙ twice_away (field_product factor (get_or generator 63 0)) byte
    ∙ sym (xor_zero_r (field_product factor (get_or generator 63 0)))
    ∙ ap (λ t. bit_xor (field_product factor (get_or generator 63 0)) t) (sym past) in
    subst (λ i. get_or next i 0 ≡ bit_xor (field_product factor (get_or generator i 0)) (get_or state (i + 1) 0)) (sym is63) at63 in
    record {
      long = length-ring_row ((first + 1) % 64) rows new r;
      bytes = All-from_get_or (λ x. x < 256) next 0
          (λ i h. let lt : i < 64 = omega (arith, length-ring_row ((first + 1) % 64) rows new r) in
          subst (λ x. x < 256) (sym (ring_row-at ((first + 1) % 64) rows new r i lt)) (is.bytes (((first + 1) % 64 + i) % 64 * rows + r)));
      each = λ k h. elim (cases_lt k (63 - first)) [
        | inl low_k ↦ after k low_k
        | inr up_k ↦ elim (cases_lt k 63) [
          | inl below ↦ earlier k up_k below
          | inr above ↦ last k (omega arith)
        ]
      ];
    }

-- what some of the generator's coefficients add
pub is_added : (rows from count : ℕ) (generator coefficients factors old new : List ℕ) → length factors ≡ rows → length coefficients ≡ count
    → ((k : ℕ) → k < count → get_or coefficients k 0 ≡ get_or generator (from + k) 0)
    → ((k r : ℕ) → k < length coefficients → r < length factors
    → get_or new (k * length factors + r) 0 ≡ bit_xor (get_or old (k * length factors + r) 0) (field_product (get_or coefficients k 0) (get_or factors r 0)))
    → IsAdded rows from count generator factors old new
is_added rows from count generator coefficients factors old new lf lc same each = record {
  each = λ k r h low.
      ap (λ w. get_or new (k * w + r) 0) (sym lf)
      ∙ each k r (omega arith) (omega arith)
      ∙ ap₂ (λ w x. bit_xor (get_or old (k * w + r) 0) (field_product x (get_or factors r 0))) lf (same k h);
}
