-- A codeword is told by its bytes at 191 places.
use Rattle.std.proofs.Common.{ℕ, zero, suc, List, [], ◌∷◌, ◌≡◌, ◌+◌, ◌-◌, ◌^◌, ◌<◌, ◌≤◌, ◌==◌, ◌||◌, inl, inr, Bool, true, false, length, get_or, map, refl, ap, ap₂, sym, subst, ◌∙◌, arith, bit_xor, lit<, eq-eqb}
use Rattle.std.specs.Prelude.{if◌then◌else◌}
use Rattle.std.specs.Int.Bits.{xor_zero_r, xor_zero_l, xor_self, xor_assoc, xor_lt}
use Rattle.std.proofs.lemmas.Nat.{xor_comm}
use Rattle.std.proofs.lemmas.Bool.{cases_eq, cases_Bool, eqb-true, ne_eqb, or_cases, or_parts, or_left, or_right, false≢true}
use Rattle.std.specs.List.{All}
use Rattle.fec_spec.specs.Field.{field_product, field_power}
use Rattle.fec_spec.specs.Codeword.{row_value, IsCodeword}
use Rattle.fec_spec.specs.Row.{is_among, same_places, Agrees}
use Rattle.field_law.proofs.Field.{power_none, power_fits, product_fits, product_sum_left, product_zero_left, product_zero_right, product_one_left, powers_differ, no_zero_divisors}
use Rattle.erasure_law.specs.Roots.{polynomial_value, root_polynomial, combined, place_power, without, differences}
use Rattle.erasure_law.proofs.Sums.{sum_of, sum_more, weight_of, combined_is, combined_zero, length-roots, value_is_differences}

pub clash : {X : Type 0} {b : Bool} → b ≡ true → b ≡ false → X
clash p q = absurd (false≢true (sym q ∙ p))

-- ---- sums that differ in one term

cancel : (a b : ℕ) → bit_xor (bit_xor a b) a ≡ b
cancel a b = xor_comm (bit_xor a b) a ∙ sym (xor_assoc a a b) ∙ ap (λ t. bit_xor t b) (xor_self a) ∙ xor_zero_l b

pub xor_none : (a b : ℕ) → bit_xor a b ≡ 0 → a ≡ b
xor_none a b e = sym (xor_zero_r a) ∙ ap (λ t. bit_xor a t) (sym (xor_self b)) ∙ sym (xor_assoc a b b) ∙ ap (λ t. bit_xor t b) e ∙ xor_zero_l b

-- a byte's term
abbrev pub term : (ℕ → ℕ) → List ℕ → ℕ → ℕ
term w row i = field_product (get_or row i 0) (w (length row - suc i))

pub sum_same : (w : ℕ → ℕ) (c d : List ℕ) → length c ≡ length d → ((j : ℕ) → j < length c → term w c j ≡ term w d j) → sum_of w c ≡ sum_of w d
sum_same w [] [] e h = refl
sum_same w [] (y ∷ d) e h = absurd (omega arith)
sum_same w (x ∷ c) [] e h = absurd (omega arith)
sum_same w (x ∷ c) (y ∷ d) e h =
    let e1 : suc (length c) - suc 0 ≡ length c = omega arith in
    let e2 : suc (length d) - suc 0 ≡ length d = omega arith in
    let head : field_product x (w (length c)) ≡ field_product y (w (length d)) =
    ap (λ k. field_product x (w k)) (sym e1) ∙ h 0 (omega arith) ∙ ap (λ k. field_product y (w k)) e2 in
    let tail : (j : ℕ) → j < length c → term w c j ≡ term w d j = λ j lt.
    let f1 : suc (length c) - suc (suc j) ≡ length c - suc j = omega arith in
    let f2 : suc (length d) - suc (suc j) ≡ length d - suc j = omega arith in
    ap (λ k. field_product (get_or c j 0) (w k)) (sym f1) ∙ h (suc j) (omega arith) ∙ ap (λ k. field_product (get_or d j 0) (w k)) f2 in
    sum_more w x c ∙ ap₂ (λ s t. bit_xor s t) head (sum_same w c d (omega arith) tail) ∙ sym (sum_more w y d)

-- where all terms but one are the same, so are the sums without it
pub one_left : (w : ℕ → ℕ) (c d : List ℕ) (i : ℕ) → length c ≡ length d → i < length c
    → ((j : ℕ) → j < length c → (j ≡ i → ⊥) → term w c j ≡ term w d j)
    → bit_xor (sum_of w c) (term w c i) ≡ bit_xor (sum_of w d) (term w d i)
one_left w [] d i e lt h = absurd (omega arith)
one_left w (x ∷ c) [] i e lt h = absurd (omega arith)
one_left w (x ∷ c) (y ∷ d) zero e lt h =
    let e1 : suc (length c) - suc 0 ≡ length c = omega arith in
    let e2 : suc (length d) - suc 0 ≡ length d = omega arith in
    let tail : (j : ℕ) → j < length c → term w c j ≡ term w d j = λ j low.
    let f1 : suc (length c) - suc (suc j) ≡ length c - suc j = omega arith in
    let f2 : suc (length d) - suc (suc j) ≡ length d - suc j = omega arith in
    ap (λ k. field_product (get_or c j 0) (w k)) (sym f1) ∙ h (suc j) (omega arith) (λ q. absurd (omega arith)) ∙ ap (λ k. field_product (get_or d j 0) (w k)) f2 in
    ap₂ (λ s t. bit_xor s t) (sum_more w x c) (ap (λ k. field_product x (w k)) e1)
    ∙ cancel (field_product x (w (length c))) (sum_of w c)
    ∙ sum_same w c d (omega arith) tail
    ∙ sym (cancel (field_product y (w (length d))) (sum_of w d))
    ∙ sym (ap₂ (λ s t. bit_xor s t) (sum_more w y d) (ap (λ k. field_product y (w k)) e2))
one_left w (x ∷ c) (y ∷ d) (suc i) e lt h =
    let e1 : suc (length c) - suc 0 ≡ length c = omega arith in
    let e2 : suc (length d) - suc 0 ≡ length d = omega arith in
    let head : field_product x (w (length c)) ≡ field_product y (w (length d)) =
    ap (λ k. field_product x (w k)) (sym e1) ∙ h 0 (omega arith) (λ q. absurd (omega arith)) ∙ ap (λ k. field_product y (w k)) e2 in
    let g1 : suc (length c) - suc (suc i) ≡ length c - suc i = omega arith in
    let g2 : suc (length d) - suc (suc i) ≡ length d - suc i = omega arith in
    let tail : (j : ℕ) → j < length c → (j ≡ i → ⊥) → term w c j ≡ term w d j = λ j low ne.
    let f1 : suc (length c) - suc (suc j) ≡ length c - suc j = omega arith in
    let f2 : suc (length d) - suc (suc j) ≡ length d - suc j = omega arith in
    ap (λ k. field_product (get_or c j 0) (w k)) (sym f1) ∙ h (suc j) (omega arith) (λ q. ne (omega arith)) ∙ ap (λ k. field_product (get_or d j 0) (w k)) f2 in
    ap₂ (λ s t. bit_xor s t) (sum_more w x c) (ap (λ k. field_product (get_or c i 0) (w k)) g1)
    ∙ xor_assoc (field_product x (w (length c))) (sum_of w c) (term w c i)
    ∙ ap₂ (λ s t. bit_xor s t) head (one_left w c d i (omega arith) (omega arith) tail)
    ∙ sym (xor_assoc (field_product y (w (length d))) (sum_of w d) (term w d i))
    ∙ sym (ap₂ (λ s t. bit_xor s t) (sum_more w y d) (ap (λ k. field_product (get_or d i 0) (w k)) g2))

-- ---- the other unknown places

if_cases : (b : Bool) (P : List ℕ → Type 0) (x y : List ℕ) → P x → P y → P (if b then x else y)
if_cases true P x y p q = p
if_cases false P x y p q = q

pub length-without_le : (i : ℕ) (xs : List ℕ) → length (without i xs) ≤ length xs
length-without_le i [] = omega arith
length-without_le i (x ∷ xs) =
    let ih : length (without i xs) ≤ length xs = length-without_le i xs in
    if_cases (i == x) (λ l. length l ≤ suc (length xs)) (without i xs) (x ∷ without i xs) (omega arith) (omega arith)

without_same : (i x : ℕ) (xs : List ℕ) → (i == x) ≡ true → without i (x ∷ xs) ≡ without i xs
without_same i x xs e = ap (λ (b : Bool). if b then without i xs else x ∷ without i xs) e

without_other : (i x : ℕ) (xs : List ℕ) → (i == x) ≡ false → without i (x ∷ xs) ≡ x ∷ without i xs
without_other i x xs e = ap (λ (b : Bool). if b then without i xs else x ∷ without i xs) e

pub length-without : (i : ℕ) (xs : List ℕ) → is_among i xs ≡ true → suc (length (without i xs)) ≤ length xs
length-without i [] h = absurd (false≢true h)
length-without i (x ∷ xs) h =
    elim (cases_Bool (i == x)) [
      | inl t ↦
          let le : length (without i xs) ≤ length xs = length-without_le i xs in
          subst (λ (l : List ℕ). suc (length l) ≤ suc (length xs)) (sym (without_same i x xs t)) (omega arith)
      | inr f ↦
          let in_rest : is_among i xs ≡ true = ap (λ b. b || is_among i xs) (sym f) ∙ h in
          let ih : suc (length (without i xs)) ≤ length xs = length-without i xs in_rest in
          subst (λ (l : List ℕ). suc (length l) ≤ suc (length xs)) (sym (without_other i x xs f)) (omega arith)
    ]

-- the place itself is not among the others
pub not-among-without : (i : ℕ) (xs : List ℕ) → is_among i (without i xs) ≡ false
not-among-without i [] = refl
not-among-without i (x ∷ xs) =
    elim (cases_Bool (i == x)) [
      | inl t ↦ ap (λ l. is_among i l) (without_same i x xs t) ∙ not-among-without i xs
      | inr f ↦ ap (λ l. is_among i l) (without_other i x xs f) ∙ ap (λ b. b || is_among i (without i xs)) f ∙ not-among-without i xs
    ]

-- each unknown place but it is
pub among-without : (i j : ℕ) (xs : List ℕ) → (j ≡ i → ⊥) → is_among j (without i xs) ≡ is_among j xs
among-without i j [] ne = refl
among-without i j (x ∷ xs) ne =
    elim (cases_Bool (i == x)) [
      | inl t ↦
          let same : i ≡ x = eqb-true i x t in
          let other : (j == x) ≡ false = ne_eqb j x (λ q. ne (q ∙ sym same)) in
          ap (λ l. is_among j l) (without_same i x xs t) ∙ among-without i j xs ne ∙ ap (λ b. b || is_among j xs) (sym other)
      | inr f ↦ ap (λ l. is_among j l) (without_other i x xs f) ∙ ap (λ b. (j == x) || b) (among-without i j xs ne)
    ]

-- each place of the others is below 255, where each unknown one is
pub without-below : (n i : ℕ) (xs : List ℕ) → ((j : ℕ) → is_among j xs ≡ true → j < n) → (j : ℕ) → is_among j (without i xs) ≡ true → j < n
without-below n i xs h j a =
    elim (cases_eq j i) [
      | inl e ↦ clash (subst (λ t. is_among t (without i xs) ≡ true) e a) (not-among-without i xs)
      | inr ne ↦ h j (sym (among-without i j xs ne) ∙ a)
    ]

-- ---- the value of the polynomial of the others

pub differences_none : (x : ℕ) (xs : List ℕ) → is_among x xs ≡ true → differences (map place_power xs) (place_power x) ≡ 0
differences_none x [] h = absurd (false≢true h)
differences_none x (y ∷ xs) h =
    elim (or_cases (x == y) (is_among x xs) h) [
      | inl t ↦
          let e : x ≡ y = eqb-true x y t in
          ap (λ s. field_product (bit_xor (place_power s) (place_power x)) (differences (map place_power xs) (place_power x))) (sym e)
          ∙ ap (λ s. field_product s (differences (map place_power xs) (place_power x))) (xor_self (place_power x))
          ∙ product_zero_left (differences (map place_power xs) (place_power x))
      | inr r ↦ ap (λ s. field_product (bit_xor (place_power y) (place_power x)) s) (differences_none x xs r) ∙ product_zero_right (bit_xor (place_power y) (place_power x))
    ]

pub differences_fit : (xs : List ℕ) (y : ℕ) → differences xs y < 2 ^ 8
differences_fit [] y = lit< tt
differences_fit (x ∷ xs) y = product_fits (bit_xor x y) (differences xs y)

places_differ : (i j : ℕ) → i < 255 → j < 255 → place_power i ≡ place_power j → i ≡ j
places_differ i j hi hj e =
    let q : 254 - i ≡ 254 - j = powers_differ (254 - i) (254 - j) (omega arith) (omega arith) e in
    omega arith

one_zero : ◌≡◌ {A = ℕ} 1 0 → ⊥
one_zero e = absurd (omega arith)

pub differences_some : (x : ℕ) (xs : List ℕ) → x < 255 → ((j : ℕ) → is_among j xs ≡ true → j < 255) → is_among x xs ≡ false
    → differences (map place_power xs) (place_power x) ≡ 0 → ⊥
differences_some x [] h all out e = one_zero e
differences_some x (y ∷ xs) h all out e =
    let parts = or_parts (x == y) (is_among x xs) out in
    let low : y < 255 = all y (or_left (y == y) (is_among y xs) (eq-eqb y y refl)) in
    let rest : differences (map place_power xs) (place_power x) ≡ 0 → ⊥ =
    differences_some x xs h (λ j a. all j (or_right (j == y) (is_among j xs) a)) (parts.1) in
    let zero_sum : bit_xor (place_power y) (place_power x) ≡ 0 =
    no_zero_divisors (bit_xor (place_power y) (place_power x)) (differences (map place_power xs) (place_power x))
    (xor_lt 8 (place_power y) (place_power x) (power_fits 2 (254 - y)) (power_fits 2 (254 - x))) (differences_fit (map place_power xs) (place_power x)) e rest in
    let same : y ≡ x = places_differ y x low h (xor_none (place_power y) (place_power x) zero_sum) in
    clash (eq-eqb x y (sym same)) (parts.0)

-- the weight of a place
pub weight_is : (places : List ℕ) (i : ℕ) → weight_of (root_polynomial (map place_power places)) 0 (255 - suc i) ≡ differences (map place_power places) (place_power i)
weight_is places i =
    let e : 255 - suc i ≡ 254 - i = omega arith in
    let x : ℕ = place_power i in
    ap (λ k. weight_of (root_polynomial (map place_power places)) 0 k) e
    ∙ ap₂ (λ s t. field_product s t) (power_none x) (value_is_differences (map place_power places) x)
    ∙ product_one_left (differences (map place_power places) x) (differences_fit (map place_power places) x)

-- ---- the formula

pub length-map_powers : (xs : List ℕ) → length (map place_power xs) ≡ length xs
length-map_powers [] = refl
length-map_powers (x ∷ xs) = ap (λ n. suc n) (length-map_powers xs)

-- a codeword's bytes, weighted by a polynomial of at most 64 coefficients, add up to 0
pub weighted_zero : (others c : List ℕ) → length others ≤ 63 → IsCodeword c → sum_of (weight_of (root_polynomial (map place_power others)) 0) c ≡ 0
weighted_zero others c few is =
    let p : List ℕ = root_polynomial (map place_power others) in
    let lp : length p ≡ suc (length (map place_power others)) = length-roots (map place_power others) in
    let lm : length (map place_power others) ≡ length others = length-map_powers others in
    sym (combined_is p c 0) ∙ combined_zero p (λ k. row_value (field_power 2 k) c) 0 64 (omega arith) is.zeros

-- two rows of 255 bytes that agree but at i and at the others
pub terms_agree : (others c d : List ℕ) (i : ℕ) → length c ≡ 255 → length d ≡ 255 → i < 255
    → ((j : ℕ) → j < 255 → (j ≡ i → ⊥) → is_among j others ≡ false → get_or c j 0 ≡ get_or d j 0)
    → bit_xor (sum_of (weight_of (root_polynomial (map place_power others)) 0) c) (field_product (get_or c i 0) (differences (map place_power others) (place_power i)))
    ≡ bit_xor (sum_of (weight_of (root_polynomial (map place_power others)) 0) d) (field_product (get_or d i 0) (differences (map place_power others) (place_power i)))
terms_agree others c d i lc ld low agree =
    let w : ℕ → ℕ = weight_of (root_polynomial (map place_power others)) 0 in
    let wc : (j : ℕ) → w (length c - suc j) ≡ differences (map place_power others) (place_power j) = λ j. ap (λ n. w (n - suc j)) lc ∙ weight_is others j in
    let wd : (j : ℕ) → w (length d - suc j) ≡ differences (map place_power others) (place_power j) = λ j. ap (λ n. w (n - suc j)) ld ∙ weight_is others j in
    let each : (j : ℕ) → j < length c → (j ≡ i → ⊥) → term w c j ≡ term w d j = λ j lt ne.
    ap (λ t. field_product (get_or c j 0) t) (wc j)
    ∙ (elim (cases_Bool (is_among j others)) [
      | inl t ↦
          ap (λ s. field_product (get_or c j 0) s) (differences_none j others t) ∙ product_zero_right (get_or c j 0)
          ∙ sym (ap (λ s. field_product (get_or d j 0) s) (differences_none j others t) ∙ product_zero_right (get_or d j 0))
      | inr f ↦ ap (λ s. field_product s (differences (map place_power others) (place_power j))) (agree j (omega arith) ne f)
    ])
    ∙ ap (λ t. field_product (get_or d j 0) t) (sym (wd j)) in
    ap (λ t. bit_xor (sum_of w c) (field_product (get_or c i 0) t)) (sym (wc i))
    ∙ one_left w c d i (lc ∙ sym ld) (omega arith) each
    ∙ ap (λ t. bit_xor (sum_of w d) (field_product (get_or d i 0) t)) (wd i)

-- the byte of a codeword at a place, from a row that agrees with it but at the place, where it has 0, and at the others
pub formula : (others c z : List ℕ) (i : ℕ) → IsCodeword c → length z ≡ 255 → i < 255 → length others ≤ 63 → get_or z i 0 ≡ 0
    → ((j : ℕ) → j < 255 → (j ≡ i → ⊥) → is_among j others ≡ false → get_or z j 0 ≡ get_or c j 0)
    → combined (root_polynomial (map place_power others)) (λ m. row_value (field_power 2 m) z) 0
    ≡ field_product (get_or c i 0) (differences (map place_power others) (place_power i))
formula others c z i is lz low few none agree =
    let p : List ℕ = root_polynomial (map place_power others) in
    let w : ℕ → ℕ = weight_of p 0 in
    let at : ℕ = differences (map place_power others) (place_power i) in
    combined_is p z 0
    ∙ sym (xor_zero_r (sum_of w z))
    ∙ ap (λ t. bit_xor (sum_of w z) t) (sym (ap (λ t. field_product t at) none ∙ product_zero_left at))
    ∙ terms_agree others z c i lz is.long low agree
    ∙ ap (λ t. bit_xor t (field_product (get_or c i 0) at)) (weighted_zero others c few is)
    ∙ xor_zero_l (field_product (get_or c i 0) at)

-- ---- uniqueness

byte_fits : (c : List ℕ) (i : ℕ) → All (λ b. b < 2 ^ 8) c → i < length c → get_or c i 0 < 2 ^ 8
byte_fits c i all lt = all i 0 lt

one_byte : (unknown c d : List ℕ) (i : ℕ) → IsCodeword c → IsCodeword d → i < 255
    → ((j : ℕ) → is_among j unknown ≡ true → j < 255) → length unknown ≤ 64 → Agrees unknown c d → is_among i unknown ≡ true
    → get_or c i 0 ≡ get_or d i 0
one_byte unknown c d i hc hd low all few agree in_it =
    let others : List ℕ = without i unknown in
    let less : suc (length others) ≤ length unknown = length-without i unknown in_it in
    let at : ℕ = differences (map place_power others) (place_power i) in
    let eq : bit_xor (sum_of (weight_of (root_polynomial (map place_power others)) 0) c) (field_product (get_or c i 0) at)
    ≡ bit_xor (sum_of (weight_of (root_polynomial (map place_power others)) 0) d) (field_product (get_or d i 0) at) =
    terms_agree others c d i hc.long hd.long low (λ j lt ne f. agree.known j lt (sym (among-without i j unknown ne) ∙ f)) in
    let both : field_product (get_or c i 0) at ≡ field_product (get_or d i 0) at =
    sym (ap (λ t. bit_xor t (field_product (get_or c i 0) at)) (weighted_zero others c (omega arith) hc) ∙ xor_zero_l (field_product (get_or c i 0) at))
    ∙ eq
    ∙ ap (λ t. bit_xor t (field_product (get_or d i 0) at)) (weighted_zero others d (omega arith) hd) ∙ xor_zero_l (field_product (get_or d i 0) at) in
    let lc : length c ≡ 255 = hc.long in
    let ld : length d ≡ 255 = hd.long in
    let fc : get_or c i 0 < 2 ^ 8 = byte_fits c i hc.bytes (omega arith) in
    let fd : get_or d i 0 < 2 ^ 8 = byte_fits d i hd.bytes (omega arith) in
    let none : field_product (bit_xor (get_or c i 0) (get_or d i 0)) at ≡ 0 =
    product_sum_left (get_or c i 0) (get_or d i 0) at ∙ ap (λ t. bit_xor t (field_product (get_or d i 0) at)) both ∙ xor_self (field_product (get_or d i 0) at) in
    xor_none (get_or c i 0) (get_or d i 0)
    (no_zero_divisors (bit_xor (get_or c i 0) (get_or d i 0)) at (xor_lt 8 (get_or c i 0) (get_or d i 0) fc fd) (differences_fit (map place_power others) (place_power i)) none
    (differences_some i others low (without-below 255 i unknown all) (not-among-without i unknown)))

pub same_list : (c d : List ℕ) → length c ≡ length d → ((i : ℕ) → i < length c → get_or c i 0 ≡ get_or d i 0) → c ≡ d
same_list [] [] e h = refl
same_list [] (y ∷ d) e h = absurd (omega arith)
same_list (x ∷ c) [] e h = absurd (omega arith)
same_list (x ∷ c) (y ∷ d) e h = ap₂ (λ (a : ℕ) (t : List ℕ). a ∷ t) (h 0 (omega arith)) (same_list c d (omega arith) (λ i lt. h (suc i) (omega arith)))

-- two codewords that agree but at 64 places or fewer are equal
pub one_codeword : (unknown c d : List ℕ) → IsCodeword c → IsCodeword d
    → ((j : ℕ) → is_among j unknown ≡ true → j < 255) → length unknown ≤ 64 → Agrees unknown c d → c ≡ d
one_codeword unknown c d hc hd all few agree =
    let lc : length c ≡ 255 = hc.long in
    same_list c d (hc.long ∙ sym hd.long) (λ i lt.
    let low : i < 255 = omega arith in
    elim (cases_Bool (is_among i unknown)) [
      | inl t ↦ one_byte unknown c d i hc hd low all few agree t
      | inr f ↦ agree.known i low f
    ])

-- ---- by the number of places that agree

-- the places, counted from n, at which two rows differ
abbrev pub differing : ℕ → List ℕ → List ℕ → List ℕ
differing n [] d = []
differing n (x ∷ c) [] = []
differing n (x ∷ c) (y ∷ d) = if x == y then differing (suc n) c d else n ∷ differing (suc n) c d

differing_same : (n x y : ℕ) (c d : List ℕ) → (x == y) ≡ true → differing n (x ∷ c) (y ∷ d) ≡ differing (suc n) c d
differing_same n x y c d e = ap (λ (b : Bool). if b then differing (suc n) c d else n ∷ differing (suc n) c d) e

differing_other : (n x y : ℕ) (c d : List ℕ) → (x == y) ≡ false → differing n (x ∷ c) (y ∷ d) ≡ n ∷ differing (suc n) c d
differing_other n x y c d e = ap (λ (b : Bool). if b then differing (suc n) c d else n ∷ differing (suc n) c d) e

count_true : (b : Bool) (n : ℕ) → b ≡ true → (if b then suc n else n) ≡ suc n
count_true true n e = refl
count_true false n e = clash e refl

count_false : (b : Bool) (n : ℕ) → b ≡ false → (if b then suc n else n) ≡ n
count_false false n e = refl
count_false true n e = clash refl e

length-differing : (n : ℕ) (c d : List ℕ) → length c ≡ length d → length (differing n c d) + same_places c d ≡ length c
length-differing n [] [] e = refl
length-differing n [] (y ∷ d) e = absurd (omega arith)
length-differing n (x ∷ c) [] e = absurd (omega arith)
length-differing n (x ∷ c) (y ∷ d) e =
    let ih : length (differing (suc n) c d) + same_places c d ≡ length c = length-differing (suc n) c d (omega arith) in
    elim (cases_Bool (x == y)) [
      | inl t ↦ ap₂ (λ (l : List ℕ) (m : ℕ). length l + m) (differing_same n x y c d t) (count_true (x == y) (same_places c d) t) ∙ (omega arith)
      | inr f ↦ ap₂ (λ (l : List ℕ) (m : ℕ). length l + m) (differing_other n x y c d f) (count_false (x == y) (same_places c d) f) ∙ (omega arith)
    ]

differing-below : (n : ℕ) (c d : List ℕ) (j : ℕ) → is_among j (differing n c d) ≡ true → (n ≤ j) × (j < n + length c)
differing-below n [] d j h = clash h refl
differing-below n (x ∷ c) [] j h = clash h refl
differing-below n (x ∷ c) (y ∷ d) j h =
    let more : is_among j (differing (suc n) c d) ≡ true → (n ≤ j) × (j < n + suc (length c)) = λ a.
    let ih : (suc n ≤ j) × (j < suc n + length c) = differing-below (suc n) c d j a in
    let a1 : suc n ≤ j = ih.0 in
    let a2 : j < suc n + length c = ih.1 in
    (omega arith, omega arith) in
    elim (cases_Bool (x == y)) [
      | inl t ↦ more (ap (λ l. is_among j l) (sym (differing_same n x y c d t)) ∙ h)
      | inr f ↦
          elim (or_cases (j == n) (is_among j (differing (suc n) c d)) (ap (λ l. is_among j l) (sym (differing_other n x y c d f)) ∙ h)) [
            | inl s ↦ let same : j ≡ n = eqb-true j n s in (omega arith, omega arith)
            | inr r ↦ more r
          ]
    ]

agree_elsewhere : (n : ℕ) (c d : List ℕ) (j : ℕ) → length c ≡ length d → j < length c → is_among (n + j) (differing n c d) ≡ false → get_or c j 0 ≡ get_or d j 0
agree_elsewhere n [] d j e lt h = absurd (omega arith)
agree_elsewhere n (x ∷ c) [] j e lt h = absurd (omega arith)
agree_elsewhere n (x ∷ c) (y ∷ d) zero e lt h =
    elim (cases_Bool (x == y)) [
      | inl t ↦ eqb-true x y t
      | inr f ↦
          let q : n + 0 ≡ n = omega arith in
          clash (or_left (n + 0 == n) (is_among (n + 0) (differing (suc n) c d)) (eq-eqb (n + 0) n q)) (ap (λ l. is_among (n + 0) l) (sym (differing_other n x y c d f)) ∙ h)
    ]
agree_elsewhere n (x ∷ c) (y ∷ d) (suc j) e lt h =
    let q : n + suc j ≡ suc n + j = omega arith in
    let rest : is_among (suc n + j) (differing (suc n) c d) ≡ false → get_or c j 0 ≡ get_or d j 0 = λ r. agree_elsewhere (suc n) c d j (omega arith) (omega arith) r in
    elim (cases_Bool (x == y)) [
      | inl t ↦ rest (ap (λ m. is_among m (differing (suc n) c d)) (sym q) ∙ ap (λ l. is_among (n + suc j) l) (sym (differing_same n x y c d t)) ∙ h)
      | inr f ↦
          let parts = or_parts (n + suc j == n) (is_among (n + suc j) (differing (suc n) c d)) (ap (λ l. is_among (n + suc j) l) (sym (differing_other n x y c d f)) ∙ h) in
          rest (ap (λ m. is_among m (differing (suc n) c d)) (sym q) ∙ parts.1)
    ]

pub agree_at_191 : (c d : List ℕ) → IsCodeword c → IsCodeword d → 191 ≤ same_places c d → c ≡ d
agree_at_191 c d hc hd h =
    let lc : length c ≡ 255 = hc.long in
    let ld : length d ≡ 255 = hd.long in
    let u : List ℕ = differing 0 c d in
    let lu : length u + same_places c d ≡ length c = length-differing 0 c d (lc ∙ sym ld) in
    let all : (j : ℕ) → is_among j u ≡ true → j < 255 = λ j a. let b : (0 ≤ j) × (j < 0 + length c) = differing-below 0 c d j a in let b1 : j < 0 + length c = b.1 in omega arith in
    one_codeword u c d hc hd all (omega arith) (record { known = λ j lt out. let q : 0 + j ≡ j = omega arith in agree_elsewhere 0 c d j (lc ∙ sym ld) (omega arith) (ap (λ m. is_among m u) q ∙ out) })

-- ---- the formula, at an unknown place of a row with zeros there
pub unknown_byte : (unknown row code : List ℕ) (i : ℕ) → IsCodeword code → length row ≡ 255 → i < 255 → ((j : ℕ) → is_among j unknown ≡ true → j < 255)
    → length unknown ≤ 64 → is_among i unknown ≡ true → Agrees unknown row code → get_or row i 0 ≡ 0
    → (field_product (get_or code i 0) (polynomial_value (root_polynomial (map place_power (without i unknown))) (place_power i))
    ≡ combined (root_polynomial (map place_power (without i unknown))) (λ m. row_value (field_power 2 m) row) 0)
    × (polynomial_value (root_polynomial (map place_power (without i unknown))) (place_power i) ≡ 0 → ⊥)
unknown_byte unknown row code i is lr low all few among agree none =
    let others : List ℕ = without i unknown in
    let less : suc (length others) ≤ length unknown = length-without i unknown among in
    let v : polynomial_value (root_polynomial (map place_power others)) (place_power i) ≡ differences (map place_power others) (place_power i) =
    value_is_differences (map place_power others) (place_power i) in (
      ap (λ t. field_product (get_or code i 0) t) v
          ∙ sym (formula others code row i is lr low (omega arith) none (λ j lt ne f. agree.known j lt (sym (among-without i j unknown ne) ∙ f))),
      λ e. differences_some i others low (without-below 255 i unknown all) (not-among-without i unknown) (sym v ∙ e),
    )
