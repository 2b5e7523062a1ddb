-- A row of which nothing is left where its last unknown places are eliminated: a codeword agrees with it but at these.
use Rattle.std.proofs.Common.{ℕ, zero, suc, List, [], ◌∷◌, ◌≡◌, ◌+◌, ◌-◌, ◌^◌, ◌<◌, ◌≤◌, ◌==◌, inl, inr, length, get_or, set, drop, map, refl, ap, sym, subst, ◌∙◌, arith, bit_xor, lit<, length-set}
use Rattle.std.proofs.Math.Seq.{drop-cons}
use Rattle.std.specs.Int.Bits.{xor_self, xor_zero_r, xor_lt}
use Rattle.std.proofs.lemmas.Bool.{cases_eq, eq-eqb, or_left, or_parts}
use Rattle.std.proofs.lemmas.List.{drop_all, get_or-set_other, get_or-set_same}
use Rattle.std.specs.List.{All}
use Rattle.std.specs.List.Sorted.{IsStrictlyIncreasing}
use Rattle.fec_spec.specs.Field.{field_power, field_product}
use Rattle.fec_spec.specs.Row.{HasCodeword, is_among}
use Rattle.field_law.proofs.Field.{product_fits, product_zero_right}
use Rattle.field_law.proofs.Powers.{power_254}
use Rattle.erasure_law.specs.Roots.{combined, differences, eliminated, place_power, root_polynomial, syndromes_of}
use Rattle.erasure_law.proofs.Elimination.{eliminated_agree, eliminated_changed, eliminated_more, eliminated_none, value_fits}
use Rattle.erasure_law.proofs.Unique.{clash, differences_fit}
use Rattle.rs_erasure.proofs.Corrections.{behind_some}
use Rattle.rs_erasure.proofs.Filling.{divided_back}

-- where nothing is left with a place, and nothing of the first without it, nothing is left without it, one syndrome further
pub one_back : (x : ℕ) (places : List ℕ) (t : ℕ → ℕ) (n : ℕ) → ((m : ℕ) → m < n → eliminated (x ∷ places) t m ≡ 0) → eliminated places t 0 ≡ 0
    → (m : ℕ) → m < suc n → eliminated places t m ≡ 0
one_back x places t n none first zero lt = first
one_back x places t n none first (suc m) lt =
    let before : eliminated places t m ≡ 0 = one_back x places t n none first m (omega arith) in
    let by : field_product (place_power x) (eliminated places t m) ≡ 0 = ap (λ s. field_product (place_power x) s) before ∙ product_zero_right (place_power x) in
    sym (xor_zero_r (eliminated places t (suc m)))
    ∙ ap (λ s. bit_xor (eliminated places t (suc m)) s) (sym by)
    ∙ sym (eliminated_more x places t m)
    ∙ none m (omega arith)

-- the first of the places from d on, and the others
pub first_place : (places : List ℕ) (d : ℕ) → d < length places → drop d places ≡ get_or places d 0 ∷ drop (d + 1) places
first_place places d lt =
    let e : suc d ≡ d + 1 = omega arith in
    drop-cons places d 0 lt ∙ ap (λ (k : ℕ). get_or places d 0 ∷ drop k places) e

-- nothing is left without the first k places, where nothing is left with all, and nothing of the first syndrome with each number of the last
pub none_behind : (unknown : List ℕ) (t : ℕ → ℕ) (k : ℕ) → k ≤ length unknown
    → ((m : ℕ) → m + length unknown < 64 → eliminated unknown t m ≡ 0)
    → ((j : ℕ) → length unknown - k ≤ j → j < length unknown → eliminated (drop (length unknown - j) unknown) t 0 ≡ 0)
    → (m : ℕ) → m + (length unknown - k) < 64 → eliminated (drop k unknown) t m ≡ 0
none_behind unknown t zero le rest done m few = rest m (omega arith)
none_behind unknown t (suc k) le rest done m few =
    let u : ℕ = length unknown in
    let x : ℕ = get_or unknown k 0 in
    let lt : k < u = omega arith in
    let cut : drop k unknown ≡ x ∷ drop (suc k) unknown = drop-cons unknown k 0 lt in
    let whole : (i : ℕ) → i + (u - k) < 64 → eliminated (drop k unknown) t i ≡ 0 = none_behind unknown t k (omega arith) rest (λ j ge low. done j (omega arith) low) in
    let e : u - (u - suc k) ≡ suc k = omega arith in
    let first : eliminated (drop (suc k) unknown) t 0 ≡ 0 = ap (λ (i : ℕ). eliminated (drop i unknown) t 0) (sym e) ∙ done (u - suc k) (omega arith) (omega arith) in
    one_back x (drop (suc k) unknown) t (64 - (u - k)) (λ i low. ap (λ (l : List ℕ). eliminated l t i) (sym cut) ∙ whole i (omega arith)) first m (omega arith)

-- a byte added
added_bytes : (row : List ℕ) (x v : ℕ) → All (λ b. b < 256) row → x < length row → v < 256 → All (λ b. b < 256) (set row x v)
added_bytes row x v bytes within fits = λ i d lt.
    let long : length (set row x v) ≡ length row = length-set row x v in
    elim (cases_eq i x) [
      | inl e ↦
          let here : get_or (set row x v) i d ≡ v = ap (λ (k : ℕ). get_or (set row x v) k d) e ∙ get_or-set_same row x v d within in
          subst (λ t. t < 256) (sym here) fits
      | inr ne ↦ subst (λ t. t < 256) (sym (get_or-set_other row x i v d ne)) (bytes i d (omega arith))
    ]

-- what is left is a byte
combined_fits : (p : List ℕ) (t : ℕ → ℕ) (m : ℕ) → combined p t m < 2 ^ 8
combined_fits [] t m = lit< tt
combined_fits (a ∷ p) t m = xor_lt 8 (field_product a (t m)) (combined p t (suc m)) (product_fits a (t m)) (combined_fits p t (suc m))

left_fits : (places row : List ℕ) → eliminated places (syndromes_of row) 0 < 2 ^ 8
left_fits places row = combined_fits (root_polynomial (map place_power places)) (syndromes_of row) 0

-- of the last n places one after another is filled
pub has_codeword : (unknown : List ℕ) → IsStrictlyIncreasing unknown → All (λ p. p < 255) unknown → (n d : ℕ) → d + n ≡ length unknown
    → (row : List ℕ) → length row ≡ 255 → All (λ b. b < 256) row → ((m : ℕ) → m + n < 64 → eliminated (drop d unknown) (syndromes_of row) m ≡ 0)
    → HasCodeword (drop d unknown) row
has_codeword unknown rising low zero d end row long bytes none =
    let empty : drop d unknown ≡ [] = drop_all d unknown (omega arith) in
    let zeros : (m : ℕ) → m < 64 → syndromes_of row m ≡ 0 = λ m lt.
    sym (eliminated_none (syndromes_of row) m (value_fits (field_power 2 m) row)) ∙ ap (λ (l : List ℕ). eliminated l (syndromes_of row) m) (sym empty) ∙ none m (omega arith) in
    (row, record { long = long; bytes = bytes; zeros = zeros }, record { known = λ j lt out. refl })
has_codeword unknown rising low (suc n) d end row long bytes none =
    let lt : d < length unknown = omega arith in
    let x : ℕ = get_or unknown d 0 in
    let after : List ℕ = drop (d + 1) unknown in
    let cut : drop d unknown ≡ x ∷ after = first_place unknown d lt in
    let x_low : x < 255 = low d 0 lt in
    let at : ℕ = differences (map place_power after) (place_power x) in
    let left : ℕ = eliminated after (syndromes_of row) 0 in
    let added : ℕ = field_product left (field_power at 254) in
    let byte : ℕ = bit_xor (get_or row x 0) added in
    let new : List ℕ = set row x byte in
    let within : x < length row = omega arith in
    let fits : byte < 2 ^ 8 = xor_lt 8 (get_or row x 0) added (bytes x 0 within) (product_fits left (field_power at 254)) in
    let new_long : length new ≡ 255 = length-set row x byte ∙ long in
    let new_bytes : All (λ b. b < 256) new = added_bytes row x byte bytes within fits in
    let others : (j : ℕ) → j < 255 → (j ≡ x → ⊥) → get_or row j 0 ≡ get_or new j 0 = λ j jl ne. sym (get_or-set_other row x j byte 0 ne) in
    let here : get_or new x 0 ≡ bit_xor (get_or row x 0) added = get_or-set_same row x byte 0 within in
    let back : field_product added at ≡ left =
    divided_back left at (field_power at 254) (left_fits after row)
    (power_254 at (differences_fit (map place_power after) (place_power x)) (behind_some unknown d rising low lt)) in
    let first : eliminated after (syndromes_of new) 0 ≡ 0 =
    eliminated_changed after row new x added long new_long x_low others here ∙ ap (λ t. bit_xor left t) back ∙ xor_self left in
    let whole : (m : ℕ) → m < 64 - suc n → eliminated (x ∷ after) (syndromes_of new) m ≡ 0 = λ m ml.
    sym (eliminated_agree (x ∷ after) row new m long new_long
    (λ j jl out. others j jl (λ same. clash (or_left (j == x) (is_among j after) (eq-eqb j x same)) out)))
    ∙ ap (λ (l : List ℕ). eliminated l (syndromes_of row) m) (sym cut) ∙ none m (omega arith) in
    let found : HasCodeword after new =
    has_codeword unknown rising low n (d + 1) (omega arith) new new_long new_bytes (λ m ml. one_back x after (syndromes_of new) (64 - suc n) whole first m (omega arith)) in (
      found.0,
      found.1,
      record {
        known = λ j jl out.
            let parts = or_parts (j == x) (is_among j after) (ap (λ (l : List ℕ). is_among j l) (sym cut) ∙ out) in
            others j jl (λ same. clash (eq-eqb j x same) parts.0) ∙ found.2.known j jl parts.1;
      },
    )
