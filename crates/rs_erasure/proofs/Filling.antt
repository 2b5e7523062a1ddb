-- The filled row.
use Rattle.std.proofs.Common.{ℕ, zero, suc, List, [], ◌∷◌, ◌≡◌, ◌+◌, ◌^◌, ◌<◌, ◌≤◌, ◌==◌, inl, inr, Bool, true, false, length, get_or, map, take, refl, ap, ap₂, sym, subst, ◌∙◌, arith, bit_xor, slice_set}
use Rattle.std.specs.Prelude.{if◌then◌else◌}
use Rattle.std.specs.List.{All}
use Rattle.std.specs.Int.Bits.{xor_self, xor_lt}
use Rattle.std.proofs.lemmas.Bool.{cases_Bool, cases_eq, eqb-true, eq-eqb, or_cases, or_parts, or_left, or_right}
use Rattle.std.proofs.lemmas.List.{take_more, get_or-set_other, get_or-set_same}
use Rattle.fec_spec.specs.Field.{field_product, field_power}
use Rattle.fec_spec.specs.Codeword.{IsCodeword, row_value}
use Rattle.fec_spec.specs.Row.{is_among, Agrees}
use Rattle.field_law.proofs.Field.{product_sum_left, product_assoc, product_comm, product_one_right, no_zero_divisors}
use Rattle.erasure_law.specs.Roots.{root_polynomial, place_power, without, differences, combined}
use Rattle.erasure_law.proofs.Sums.{length-roots}
use Rattle.erasure_law.proofs.Unique.{clash, length-map_powers, length-without, without-below, not-among-without, among-without, differences_some, differences_fit, formula, xor_none, same_list}
use Rattle.rs_erasure.specs.Fill.{Fills}
use Rattle.rs_erasure.proofs.Steps.{is_among_push}

pub all_low : (n : ℕ) (xs : List ℕ) → All (λ p. p < n) xs → (j : ℕ) → is_among j xs ≡ true → j < n
all_low n [] all j h = clash h refl
all_low n (x ∷ xs) all j h =
    let head : x < n = all 0 0 (omega arith) in
    elim (or_cases (j == x) (is_among j xs) h) [
      | inl t ↦ let e : j ≡ x = eqb-true j x t in omega arith
      | inr r ↦ all_low n xs (λ k d lt. all (suc k) d (omega arith)) j r
    ]

pub among_at : (xs : List ℕ) (k : ℕ) → k < length xs → is_among (get_or xs k 0) xs ≡ true
among_at [] k h = absurd (omega arith)
among_at (x ∷ xs) zero h = or_left (x == x) (is_among x xs) (eq-eqb x x refl)
among_at (x ∷ xs) (suc k) h = or_right (get_or xs k 0 == x) (is_among (get_or xs k 0) xs) (among_at xs k (omega arith))

pub length_others : (i : ℕ) (unknown : List ℕ) → length unknown ≤ 64 → is_among i unknown ≡ true → length (root_polynomial (map place_power (without i unknown))) ≤ 64
length_others i unknown few among =
    let a : length (root_polynomial (map place_power (without i unknown))) ≡ suc (length (map place_power (without i unknown))) = length-roots (map place_power (without i unknown)) in
    let b : length (map place_power (without i unknown)) ≡ length (without i unknown) = length-map_powers (without i unknown) in
    let c : suc (length (without i unknown)) ≤ length unknown = length-without i unknown among in
    omega arith

pub others_some : (i : ℕ) (unknown : List ℕ) → All (λ p. p < 255) unknown → i < 255
    → differences (map place_power (without i unknown)) (place_power i) ≡ 0 → ⊥
others_some i unknown all low =
    differences_some i (without i unknown) low (without-below 255 i unknown (all_low 255 unknown all)) (not-among-without i unknown)

-- a sum times an inverse, times the value
pub divided_back : (sum value inverse : ℕ) → sum < 2 ^ 8 → field_product value inverse ≡ 1 → field_product (field_product sum inverse) value ≡ sum
divided_back sum value inverse h e =
    product_assoc sum inverse value ∙ ap (λ t. field_product sum t) (product_comm inverse value ∙ e) ∙ product_one_right sum h

-- one more place filled
pub known_step : (row clear unknown : List ℕ) (n i byte : ℕ) → n < length unknown
    → (is_among i (take n unknown) ≡ false → get_or row i 0 ≡ get_or clear i 0)
    → is_among i (take (n + 1) unknown) ≡ false → get_or (slice_set row (get_or unknown n 0) byte) i 0 ≡ get_or clear i 0
known_step row clear unknown n i byte lt is out =
    let p : ℕ = get_or unknown n 0 in
    let parts = or_parts (is_among i (take n unknown)) (i == p) (sym (is_among_push i p (take n unknown)) ∙ ap (λ l. is_among i l) (sym (take_more unknown n 0 lt)) ∙ out) in
    get_or-set_other row p i byte 0 (λ e. clash (eq-eqb i p e) (parts.1)) ∙ is (parts.0)

pub found_step : (row unknown : List ℕ) (syndromes : ℕ → ℕ) (n i byte : ℕ) → n < length unknown → get_or unknown n 0 < length row
    → Fills syndromes unknown (get_or unknown n 0) byte
    → (is_among i (take n unknown) ≡ true → Fills syndromes unknown i (get_or row i 0))
    → is_among i (take (n + 1) unknown) ≡ true → Fills syndromes unknown i (get_or (slice_set row (get_or unknown n 0) byte) i 0)
found_step row unknown syndromes n i byte lt room now is among =
    let p : ℕ = get_or unknown n 0 in
    elim (cases_eq i p) [
      | inl e ↦
          subst (λ k. Fills syndromes unknown k (get_or (slice_set row p byte) k 0)) (sym e)
          (subst (λ b. Fills syndromes unknown p b) (sym (get_or-set_same row p byte 0 room)) now)
      | inr ne ↦
          elim (or_cases (is_among i (take n unknown)) (i == p) (sym (is_among_push i p (take n unknown)) ∙ ap (λ l. is_among i l) (sym (take_more unknown n 0 lt)) ∙ among)) [
            | inl before ↦ subst (λ b. Fills syndromes unknown i b) (sym (get_or-set_other row p i byte 0 ne)) (is before)
            | inr same ↦ absurd (ne (eqb-true i p same))
          ]
    ]

pub combined_same : (p : List ℕ) (s t : ℕ → ℕ) (m n : ℕ) → m + length p ≤ n → ((k : ℕ) → k < n → s k ≡ t k) → combined p s m ≡ combined p t m
combined_same [] s t m n h e = refl
combined_same (a ∷ p) s t m n h e = ap₂ (λ x y. bit_xor (field_product a x) y) (e m (omega arith)) (combined_same p s t (suc m) n (omega arith) e)

clear_known : (b : Bool) (x : ℕ) → b ≡ false → (if b then 0 else x) ≡ x
clear_known false x e = refl
clear_known true x e = clash refl e

clear_unknown : (b : Bool) (x : ℕ) → b ≡ true → (if b then 0 else x) ≡ 0
clear_unknown true x e = refl
clear_unknown false x e = clash e refl

-- what the steps of decoding say of their rows
pub record Filled (row clear full unknown : List ℕ) (syndromes : ℕ → ℕ) : Type 0 where
  pub cleared : (i : ℕ) → i < 255 → get_or clear i 0 ≡ (if is_among i unknown then 0 else get_or row i 0)
  pub values_are : (m : ℕ) → m < 64 → syndromes m ≡ row_value (field_power 2 m) clear
  pub known : (i : ℕ) → i < 255 → is_among i unknown ≡ false → get_or full i 0 ≡ get_or clear i 0
  pub found : (i : ℕ) → i < 255 → is_among i unknown ≡ true → Fills syndromes unknown i (get_or full i 0)
  pub clear_long : length clear ≡ 255
  pub full_long : length full ≡ 255
  pub bytes : All (λ b. b < 2 ^ 8) full

pub filled_agrees : (row clear full unknown : List ℕ) (syndromes : ℕ → ℕ) → Filled row clear full unknown syndromes → Agrees unknown row full
filled_agrees row clear full unknown syndromes is = record {
  known = λ i low out. sym (is.known i low out ∙ is.cleared i low ∙ clear_known (is_among i unknown) (get_or row i 0) out);
}

-- a codeword that agrees is the filled row
pub filled_is : (row clear full unknown code : List ℕ) (syndromes : ℕ → ℕ) → Filled row clear full unknown syndromes
    → All (λ p. p < 255) unknown → length unknown ≤ 64 → IsCodeword code → Agrees unknown row code → full ≡ code
filled_is row clear full unknown code syndromes is all few code_is agrees =
    let lf : length full ≡ 255 = is.full_long in
    let lc : length code ≡ 255 = code_is.long in
    let known : (i : ℕ) → i < 255 → is_among i unknown ≡ false → get_or clear i 0 ≡ get_or code i 0 =
    λ i low out. is.cleared i low ∙ clear_known (is_among i unknown) (get_or row i 0) out ∙ agrees.known i low out in
    let found : (i : ℕ) → i < 255 → is_among i unknown ≡ true → get_or full i 0 ≡ get_or code i 0 = λ i low among.
    let others : List ℕ = without i unknown in
    let p : List ℕ = root_polynomial (map place_power others) in
    let at : ℕ = differences (map place_power others) (place_power i) in
    let lp : length p ≤ 64 = length_others i unknown few among in
    let less : suc (length others) ≤ length unknown = length-without i unknown among in
    let none : get_or clear i 0 ≡ 0 = is.cleared i low ∙ clear_unknown (is_among i unknown) (get_or row i 0) among in
    let both : field_product (get_or full i 0) at ≡ field_product (get_or code i 0) at =
    is.found i low among
    ∙ combined_same p syndromes (λ m. row_value (field_power 2 m) clear) 0 64 (omega arith) is.values_are
    ∙ formula others code clear i code_is is.clear_long low (omega arith) none
    (λ j lt ne out. known j lt (sym (among-without i j unknown ne) ∙ out)) in
    let ff : get_or full i 0 < 2 ^ 8 = is.bytes i 0 (omega arith) in
    let fc : get_or code i 0 < 2 ^ 8 = code_is.bytes i 0 (omega arith) in
    let zero_sum : field_product (bit_xor (get_or full i 0) (get_or code i 0)) at ≡ 0 =
    product_sum_left (get_or full i 0) (get_or code i 0) at ∙ ap (λ t. bit_xor t (field_product (get_or code i 0) at)) both ∙ xor_self (field_product (get_or code i 0) at) in
    xor_none (get_or full i 0) (get_or code i 0)
    (no_zero_divisors (bit_xor (get_or full i 0) (get_or code i 0)) at (xor_lt 8 (get_or full i 0) (get_or code i 0) ff fc) (differences_fit (map place_power others) (place_power i)) zero_sum
    (others_some i unknown all low)) in
    same_list full code (lf ∙ sym lc) (λ i lt.
    let low : i < 255 = omega arith in
    elim (cases_Bool (is_among i unknown)) [
      | inl t ↦ found i low t
      | inr f ↦ is.known i low f ∙ known i low f
    ])
