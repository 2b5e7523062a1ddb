-- Unknown places are eliminated one by one, and a row of whose syndromes nothing is left is a codeword.
use Rattle.std.proofs.Common.{ℕ, zero, suc, List, [], ◌∷◌, ◌≡◌, ◌+◌, ◌-◌, ◌^◌, ◌<◌, ◌≤◌, inl, inr, false, length, get_or, drop, map, ap, ap₂, sym, subst, ◌∙◌, arith, bit_xor, lit<, length-drop}
use Rattle.std.specs.Int.Bits.{xor_zero_r, xor_zero_l, xor_self, xor_assoc, xor_lt}
use Rattle.std.proofs.lemmas.Nat.{xor_comm}
use Rattle.std.proofs.lemmas.Bool.{cases_Bool, cases_lt}
use Rattle.std.specs.List.{All}
use Rattle.fec_spec.specs.Field.{field_product, field_power}
use Rattle.fec_spec.specs.Codeword.{row_value, IsCodeword}
use Rattle.fec_spec.specs.Row.{is_among, Agrees}
use Rattle.field_law.proofs.Field.{product_fits, product_sum_left, product_sum_right, product_assoc, product_comm, product_zero_right, product_one_left}
use Rattle.field_law.proofs.Products.{xor_swap}
use Rattle.erasure_law.specs.Roots.{combined, differences, eliminated, place_power, root_polynomial, times_root, syndromes_of}
use Rattle.erasure_law.proofs.Sums.{sum_of, value_is_differences, weight_of, combined_is, combined_zero, length-roots, row_value_none, row_value_more}
use Rattle.erasure_law.proofs.Unique.{term, sum_same, one_left, differences_none, weight_is, length-map_powers}

-- the value of a row is a byte
pub value_fits : (z : ℕ) (row : List ℕ) → row_value z row < 2 ^ 8
value_fits z [] = subst (λ t. t < 2 ^ 8) (sym (row_value_none z)) (lit< tt)
value_fits z (c ∷ row) =
    subst (λ t. t < 2 ^ 8) (sym (row_value_more z c row))
    (xor_lt 8 (field_product c (field_power z (length row))) (row_value z row) (product_fits c (field_power z (length row))) (value_fits z row))

-- ---- one place more

four : (a b c d : ℕ) → bit_xor (bit_xor a b) (bit_xor c d) ≡ bit_xor a (bit_xor c (bit_xor b d))
four a b c d = xor_swap a b c d ∙ xor_assoc a c (bit_xor b d)

combined-times_root : (x c : ℕ) (p : List ℕ) (t : ℕ → ℕ) (m : ℕ)
    → combined (times_root x c p) t m ≡ bit_xor (field_product c (t m)) (bit_xor (combined p t (suc m)) (field_product x (combined p t m)))
combined-times_root x c [] t m = ap (λ s. bit_xor (field_product c (t m)) s) (sym (product_zero_right x))
combined-times_root x c (a ∷ p) t m =
    let now : ℕ = t m in
    let q : ℕ = combined p t (suc m) in
    let r : ℕ = combined p t (suc (suc m)) in
    let ct : ℕ = field_product c now in
    let xat : ℕ = field_product (field_product x a) now in
    let an : ℕ = field_product a (t (suc m)) in
    let xq : ℕ = field_product x q in
    ap₂ (λ s v. bit_xor s v) (product_sum_left c (field_product x a) now) (combined-times_root x a p t (suc m))
    ∙ xor_assoc ct xat (bit_xor an (bit_xor r xq))
    ∙ ap (λ s. bit_xor ct s)
    (xor_comm xat (bit_xor an (bit_xor r xq))
    ∙ ap (λ s. bit_xor s xat) (sym (xor_assoc an r xq))
    ∙ xor_assoc (bit_xor an r) xq xat
    ∙ ap (λ s. bit_xor (bit_xor an r) s)
    (xor_comm xq xat ∙ ap (λ s. bit_xor s xq) (product_assoc x a now) ∙ sym (product_sum_right x (field_product a now) q)))

-- one root more
pub combined_more : (x : ℕ) (roots : List ℕ) (t : ℕ → ℕ) (m : ℕ)
    → combined (root_polynomial (x ∷ roots)) t m ≡ bit_xor (combined (root_polynomial roots) t (suc m)) (field_product x (combined (root_polynomial roots) t m))
combined_more x roots t m =
    let p : List ℕ = root_polynomial roots in
    combined-times_root x 0 p t m
    ∙ ap (λ s. bit_xor s (bit_xor (combined p t (suc m)) (field_product x (combined p t m)))) (product_comm 0 (t m) ∙ product_zero_right (t m))
    ∙ xor_zero_l (bit_xor (combined p t (suc m)) (field_product x (combined p t m)))

pub eliminated_more : (x : ℕ) (places : List ℕ) (t : ℕ → ℕ) (m : ℕ)
    → eliminated (x ∷ places) t m ≡ bit_xor (eliminated places t (suc m)) (field_product (place_power x) (eliminated places t m))
eliminated_more x places t m = combined_more (place_power x) (map place_power places) t m

pub eliminated_none : (t : ℕ → ℕ) (m : ℕ) → t m < 2 ^ 8 → eliminated [] t m ≡ t m
eliminated_none t m fits = xor_zero_r (field_product 1 (t m)) ∙ product_one_left (t m) fits

-- where the syndromes below are 0, the highest is left
pub eliminated_top : (places : List ℕ) (t : ℕ → ℕ) (m : ℕ) → ((k : ℕ) → t k < 2 ^ 8) → ((k : ℕ) → k < m + length places → t k ≡ 0) → eliminated places t m ≡ t (m + length places)
eliminated_top [] t m fits below = let e : m ≡ m + 0 = omega arith in eliminated_none t m (fits m) ∙ ap t e
eliminated_top (x ∷ places) t m fits below =
    let n : ℕ = length places in
    let e : suc m + n ≡ m + suc n = omega arith in
    let high : eliminated places t (suc m) ≡ t (suc m + n) = eliminated_top places t (suc m) fits (λ k lt. below k (omega arith)) in
    let low : eliminated places t m ≡ t (m + n) = eliminated_top places t m fits (λ k lt. below k (omega arith)) in
    eliminated_more x places t m
    ∙ ap₂ (λ s v. bit_xor s v) (high ∙ ap t e)
    (ap (λ s. field_product (place_power x) s) (low ∙ below (m + n) (omega arith)) ∙ product_zero_right (place_power x))
    ∙ xor_zero_r (t (m + suc n))

-- syndromes are 0 where nothing is left of them, with no place eliminated, with one, and so on
zeros_below : (unknown : List ℕ) (t : ℕ → ℕ) → ((k : ℕ) → t k < 2 ^ 8)
    → ((j : ℕ) → j < 64 → eliminated (drop (length unknown - j) unknown) t (j - length unknown) ≡ 0)
    → (n : ℕ) → n ≤ 64 → (k : ℕ) → k < n → t k ≡ 0
zeros_below unknown t fits zero_left zero le k lt = absurd (omega arith)
zeros_below unknown t fits zero_left (suc n) le k lt =
    let below : (i : ℕ) → i < n → t i ≡ 0 = zeros_below unknown t fits zero_left n (omega arith) in
    elim (cases_lt k n) [
      | inl low ↦ below k low
      | inr high ↦
          let u : ℕ = length unknown in
          let l : length (drop (u - n) unknown) ≡ u - (u - n) = length-drop (u - n) unknown in
          let e : n - u + length (drop (u - n) unknown) ≡ n = omega arith in
          let same : k ≡ n = omega arith in
          ap t (same ∙ sym e)
          ∙ sym (eliminated_top (drop (u - n) unknown) t (n - u) fits (λ i h. below i (subst (λ s. i < s) e h)))
          ∙ zero_left n (omega arith)
    ]

pub zeros_left : (unknown : List ℕ) (t : ℕ → ℕ) → ((k : ℕ) → t k < 2 ^ 8)
    → ((j : ℕ) → j < 64 → eliminated (drop (length unknown - j) unknown) t (j - length unknown) ≡ 0)
    → (m : ℕ) → m < 64 → t m ≡ 0
zeros_left unknown t fits zero_left m lt =
    let all : 64 ≤ 64 = omega arith in
    zeros_below unknown t fits zero_left 64 all m lt

-- ---- rows

weight_at : (places : List ℕ) (m i : ℕ) → weight_of (root_polynomial (map place_power places)) m (254 - i) ≡ field_product (field_power (place_power i) m) (differences (map place_power places) (place_power i))
weight_at places m i = ap (λ t. field_product (field_power (place_power i) m) t) (value_is_differences (map place_power places) (place_power i))

-- rows that agree but at the places
pub eliminated_agree : (places c d : List ℕ) (m : ℕ) → length c ≡ 255 → length d ≡ 255
    → ((j : ℕ) → j < 255 → is_among j places ≡ false → get_or c j 0 ≡ get_or d j 0)
    → eliminated places (syndromes_of c) m ≡ eliminated places (syndromes_of d) m
eliminated_agree places c d m lc ld agree =
    let p : List ℕ = root_polynomial (map place_power places) in
    let w : ℕ → ℕ = weight_of p m in
    let at : (j : ℕ) → w (254 - j) ≡ field_product (field_power (place_power j) m) (differences (map place_power places) (place_power j)) = weight_at places m in
    let each : (j : ℕ) → j < length c → term w c j ≡ term w d j = λ j lt.
    let ec : length c - suc j ≡ 254 - j = omega arith in
    let ed : length d - suc j ≡ 254 - j = omega arith in
    ap (λ k. field_product (get_or c j 0) (w k)) ec
    ∙ (elim (cases_Bool (is_among j places)) [
      | inl t ↦
          let none : w (254 - j) ≡ 0 = at j ∙ ap (λ s. field_product (field_power (place_power j) m) s) (differences_none j places t) ∙ product_zero_right (field_power (place_power j) m) in
          ap (λ s. field_product (get_or c j 0) s) none ∙ product_zero_right (get_or c j 0)
          ∙ sym (ap (λ s. field_product (get_or d j 0) s) none ∙ product_zero_right (get_or d j 0))
      | inr f ↦ ap (λ s. field_product s (w (254 - j))) (agree j (omega arith) f)
    ])
    ∙ ap (λ k. field_product (get_or d j 0) (w k)) (sym ed) in
    combined_is p c m ∙ sum_same w c d (lc ∙ sym ld) each ∙ sym (combined_is p d m)

only_difference : (a b x y : ℕ) → bit_xor a x ≡ bit_xor b (bit_xor x y) → b ≡ bit_xor a y
only_difference a b x y h =
    let whole : bit_xor b (bit_xor y x) ≡ bit_xor a x = ap (λ s. bit_xor b s) (xor_comm y x) ∙ sym h in
    let once : bit_xor (bit_xor b y) x ≡ bit_xor a x = xor_assoc b y x ∙ whole in
    let off : (s : ℕ) → bit_xor (bit_xor s x) x ≡ s = λ s. xor_assoc s x x ∙ ap (λ v. bit_xor s v) (xor_self x) ∙ xor_zero_r s in
    let by : bit_xor b y ≡ a = sym (off (bit_xor b y)) ∙ ap (λ s. bit_xor s x) once ∙ off a in
    sym (xor_zero_r b) ∙ ap (λ s. bit_xor b s) (sym (xor_self y)) ∙ sym (xor_assoc b y y) ∙ ap (λ s. bit_xor s y) by

-- a row of which one byte has e added
pub eliminated_changed : (places c d : List ℕ) (i e : ℕ) → length c ≡ 255 → length d ≡ 255 → i < 255
    → ((j : ℕ) → j < 255 → (j ≡ i → ⊥) → get_or c j 0 ≡ get_or d j 0) → get_or d i 0 ≡ bit_xor (get_or c i 0) e
    → eliminated places (syndromes_of d) 0 ≡ bit_xor (eliminated places (syndromes_of c) 0) (field_product e (differences (map place_power places) (place_power i)))
eliminated_changed places c d i e lc ld low same added =
    let p : List ℕ = root_polynomial (map place_power places) in
    let w : ℕ → ℕ = weight_of p 0 in
    let at : ℕ = differences (map place_power places) (place_power i) in
    let wi : w (255 - suc i) ≡ at = weight_is places i in
    let left : bit_xor (sum_of w c) (term w c i) ≡ bit_xor (sum_of w d) (term w d i) =
    one_left w c d i (lc ∙ sym ld) (omega arith)
    (λ j lt ne. ap (λ s. field_product s (w (length c - suc j))) (same j (omega arith) ne) ∙ ap (λ n. field_product (get_or d j 0) (w (n - suc j))) (lc ∙ sym ld)) in
    let tc : term w c i ≡ field_product (get_or c i 0) at = ap (λ n. field_product (get_or c i 0) (w (n - suc i))) lc ∙ ap (λ s. field_product (get_or c i 0) s) wi in
    let td : term w d i ≡ bit_xor (field_product (get_or c i 0) at) (field_product e at) =
    ap (λ n. field_product (get_or d i 0) (w (n - suc i))) ld ∙ ap (λ s. field_product (get_or d i 0) s) wi ∙ ap (λ s. field_product s at) added ∙ product_sum_left (get_or c i 0) e at in
    combined_is p d 0
    ∙ only_difference (sum_of w c) (sum_of w d) (field_product (get_or c i 0) at) (field_product e at)
    (ap (λ s. bit_xor (sum_of w c) s) (sym tc) ∙ left ∙ ap (λ s. bit_xor (sum_of w d) s) td)
    ∙ ap (λ s. bit_xor s (field_product e at)) (sym (combined_is p c 0))

-- of a codeword nothing is left
pub eliminated_codeword : (places c : List ℕ) (m : ℕ) → IsCodeword c → m + length places < 64 → eliminated places (syndromes_of c) m ≡ 0
eliminated_codeword places c m is few =
    let p : List ℕ = root_polynomial (map place_power places) in
    let lp : length p ≡ suc (length (map place_power places)) = length-roots (map place_power places) in
    let lm : length (map place_power places) ≡ length places = length-map_powers places in
    combined_zero p (syndromes_of c) m 64 (omega arith) is.zeros

-- nor of a row that agrees with it but at the places
pub nothing_left : (unknown row code : List ℕ) (m : ℕ) → IsCodeword code → length row ≡ 255 → Agrees unknown row code → m + length unknown < 64 → eliminated unknown (syndromes_of row) m ≡ 0
nothing_left unknown row code m is long agrees few =
    eliminated_agree unknown row code m long is.long agrees.known ∙ eliminated_codeword unknown code m is few

pub codeword_left : (unknown row : List ℕ) → length row ≡ 255 → All (λ b. b < 256) row
    → ((j : ℕ) → j < 64 → eliminated (drop (length unknown - j) unknown) (syndromes_of row) (j - length unknown) ≡ 0)
    → IsCodeword row
codeword_left unknown row long bytes none = record {
  long = long;
  bytes = bytes;
  zeros = zeros_left unknown (syndromes_of row) (λ m. value_fits (field_power 2 m) row) none;
}
