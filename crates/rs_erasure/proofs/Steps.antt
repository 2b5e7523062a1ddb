-- Steps of the loops.
use Rattle.std.proofs.Common.{ℕ, suc, List, [], ◌∷◌, ◌++◌, ◌≡◌, ◌+◌, ◌-◌, ◌<◌, ◌≤◌, ◌==◌, ◌||◌, inl, inr, Bool, true, false, length, get_or, map, take, drop, refl, ap, sym, ◌∙◌, arith, bit_xor, length-drop, slice_set}
use Rattle.std.proofs.Math.Seq.{drop-cons}
use Rattle.std.proofs.lemmas.List.{take_more, get_or-set_other, get_or-set_same}
use Rattle.std.specs.Prelude.{if◌then◌else◌}
use Rattle.std.specs.Int.Bits.{xor_assoc}
use Rattle.std.proofs.lemmas.Bool.{cases_eq, eq-eqb, ne_eqb}
use Rattle.fec_spec.specs.Field.{field_product}
use Rattle.fec_spec.specs.Row.{is_among}
use Rattle.erasure_law.specs.Roots.{times_root, root_polynomial, place_power, without, differences, combined}
use Rattle.erasure_law.proofs.Sums.{length-roots}
use Rattle.erasure_law.proofs.Unique.{length-map_powers, length-without_le}

or_false : (b : Bool) → (b || false) ≡ b
or_false true = refl
or_false false = refl

or_assoc : (a b c : Bool) → ((a || b) || c) ≡ (a || (b || c))
or_assoc true b c = refl
or_assoc false b c = refl

-- one more place
pub is_among_push : (i x : ℕ) (xs : List ℕ) → is_among i (xs ++ x ∷ []) ≡ (is_among i xs || (i == x))
is_among_push i x [] = or_false (i == x)
is_among_push i x (y ∷ xs) = ap (λ b. (i == y) || b) (is_among_push i x xs) ∙ sym (or_assoc (i == y) (is_among i xs) (i == x))

if_roots : (b : Bool) (x : ℕ) (w : List ℕ)
    → root_polynomial (map place_power (if b then w else x ∷ w)) ≡ (if b then root_polynomial (map place_power w) else times_root (place_power x) 0 (root_polynomial (map place_power w)))
if_roots true x w = refl
if_roots false x w = refl

if_differences : (b : Bool) (x y : ℕ) (w : List ℕ)
    → differences (map place_power (if b then w else x ∷ w)) y ≡ (if b then differences (map place_power w) y else field_product (bit_xor (place_power x) y) (differences (map place_power w) y))
if_differences true x y w = refl
if_differences false x y w = refl

-- one more place in front
pub roots_step : (i x : ℕ) (xs : List ℕ)
    → root_polynomial (map place_power (without i (x ∷ xs))) ≡ (if i == x then root_polynomial (map place_power (without i xs)) else times_root (place_power x) 0 (root_polynomial (map place_power (without i xs))))
roots_step i x xs = if_roots (i == x) x (without i xs)

pub differences_step : (i x y : ℕ) (xs : List ℕ)
    → differences (map place_power (without i (x ∷ xs))) y ≡ (if i == x then differences (map place_power (without i xs)) y else field_product (bit_xor (place_power x) y) (differences (map place_power (without i xs)) y))
differences_step i x y xs = if_differences (i == x) x y (without i xs)

-- a byte of a row that was set to 0
clear_case : (a e : Bool) (x : ℕ) → (if e then 0 else (if a then 0 else x)) ≡ (if (a || e) then 0 else x)
clear_case true true x = refl
clear_case true false x = refl
clear_case false true x = refl
clear_case false false x = refl

pub clear_step : (row clear unknown : List ℕ) (n i : ℕ) → n < length unknown → get_or unknown n 0 < length clear
    → get_or clear i 0 ≡ (if is_among i (take n unknown) then 0 else get_or row i 0)
    → get_or (slice_set clear (get_or unknown n 0) 0) i 0 ≡ (if is_among i (take (n + 1) unknown) then 0 else get_or row i 0)
clear_step row clear unknown n i lt room is =
    let p : ℕ = get_or unknown n 0 in
    let more : take (n + 1) unknown ≡ take n unknown ++ p ∷ [] = take_more unknown n 0 lt in
    let one : get_or (slice_set clear p 0) i 0 ≡ (if (i == p) then 0 else get_or clear i 0) =
    elim (cases_eq i p) [
      | inl same ↦ ap (λ k. get_or (slice_set clear p 0) k 0) same ∙ get_or-set_same clear p 0 0 room ∙ ap (λ (t : Bool). if t then 0 else get_or clear i 0) (sym (eq-eqb i p same))
      | inr ne ↦ get_or-set_other clear p i 0 0 ne ∙ ap (λ (t : Bool). if t then 0 else get_or clear i 0) (sym (ne_eqb i p ne))
    ] in
    one
    ∙ ap (λ t. if (i == p) then 0 else t) is
    ∙ clear_case (is_among i (take n unknown)) (i == p) (get_or row i 0)
    ∙ ap (λ (t : Bool). if t then 0 else get_or row i 0) (sym (is_among_push i p (take n unknown)) ∙ ap (λ l. is_among i l) (sym more))

-- one more coefficient
pub combine_step : (p : List ℕ) (term : ℕ → ℕ) (n s total : ℕ) → n < length p → bit_xor s (combined (drop n p) term n) ≡ total
    → bit_xor (bit_xor s (field_product (get_or p n 0) (term n))) (combined (drop (n + 1) p) term (n + 1)) ≡ total
combine_step p term n s total lt is =
    let e : n + 1 ≡ suc n = omega arith in
    ap (λ k. bit_xor (bit_xor s (field_product (get_or p n 0) (term n))) (combined (drop k p) term k)) e
    ∙ xor_assoc s (field_product (get_or p n 0) (term n)) (combined (drop (suc n) p) term (suc n))
    ∙ ap (λ l. bit_xor s (combined l term n)) (sym (drop-cons p n 0 lt))
    ∙ is

pub length-without_drop : (i n : ℕ) (xs : List ℕ) → length (root_polynomial (map place_power (without i (drop n xs)))) ≤ suc (length xs - n)
length-without_drop i n xs =
    let a : length (root_polynomial (map place_power (without i (drop n xs)))) ≡ suc (length (map place_power (without i (drop n xs)))) = length-roots (map place_power (without i (drop n xs))) in
    let b : length (map place_power (without i (drop n xs))) ≡ length (without i (drop n xs)) = length-map_powers (without i (drop n xs)) in
    let c : length (without i (drop n xs)) ≤ length (drop n xs) = length-without_le i (drop n xs) in
    let d : length (drop n xs) ≡ length xs - n = length-drop n xs in
    omega arith
