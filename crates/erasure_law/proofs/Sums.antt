-- Sums over a row.
use Rattle.std.proofs.Common.{ℕ, suc, List, [], ◌∷◌, ◌≡◌, ◌+◌, ◌<◌, ◌≤◌, length, refl, ap, ap₂, sym, ◌∙◌, arith, bit_xor}
use Rattle.std.specs.Int.Bits.{xor_zero_r, xor_assoc}
use Rattle.fec_spec.specs.Field.{field_sum, field_product, field_power}
use Rattle.fec_spec.specs.Codeword.{row_value}
use Rattle.field_law.proofs.Products.{xor_swap}
use Rattle.field_law.proofs.Field.{power_more, product_comm, product_assoc, product_sum_left, product_sum_right, product_zero_right}
use Rattle.field_law.proofs.Powers.{power_swap}
use Rattle.erasure_law.specs.Roots.{polynomial_value, times_root, root_polynomial, combined, differences}

-- ---- sums of weighted bytes: a byte's weight goes by the power of its place

unfoldable pub sum_of : (ℕ → ℕ) → List ℕ → ℕ
sum_of weight [] = 0
sum_of weight (c ∷ row) = field_sum (field_product c (weight (length row))) (sum_of weight row)

pub sum_none : (w : ℕ → ℕ) → sum_of w [] ≡ 0
unfolding sum_of
sum_none w = refl

pub sum_more : (w : ℕ → ℕ) (c : ℕ) (row : List ℕ) → sum_of w (c ∷ row) ≡ field_sum (field_product c (w (length row))) (sum_of w row)
unfolding sum_of
sum_more w c row = refl

pub row_value_none : (z : ℕ) → row_value z [] ≡ 0
unfolding row_value
row_value_none z = refl

pub row_value_more : (z c : ℕ) (row : List ℕ) → row_value z (c ∷ row) ≡ field_sum (field_product c (field_power z (length row))) (row_value z row)
unfolding row_value
row_value_more z c row = refl

-- the weight of the byte at power k, for a polynomial whose terms begin at m
abbrev pub weight_of : List ℕ → ℕ → ℕ → ℕ
weight_of p m k = field_product (field_power (field_power 2 k) m) (polynomial_value p (field_power 2 k))

sum_nothing : (m : ℕ) (row : List ℕ) → sum_of (weight_of [] m) row ≡ 0
sum_nothing m [] = sum_none (weight_of [] m)
sum_nothing m (c ∷ row) =
    sum_more (weight_of [] m) c row
    ∙ ap₂ (λ x y. bit_xor (field_product c x) y) (product_zero_right (field_power (field_power 2 (length row)) m)) (sum_nothing m row)
    ∙ xor_zero_r (field_product c 0) ∙ product_zero_right c

-- one byte's weight, where the polynomial has one more constant
weight_more : (a c m k : ℕ) (p : List ℕ)
    → field_product c (weight_of (a ∷ p) m k) ≡ field_sum (field_product a (field_product c (field_power (field_power 2 m) k))) (field_product c (weight_of p (suc m) k))
weight_more a c m k p =
    let x : ℕ = field_power 2 k in
    let xm : ℕ = field_power x m in
    let v : ℕ = polynomial_value p x in
    let left : field_product c (field_product xm a) ≡ field_product a (field_product c (field_power (field_power 2 m) k)) =
    ap (λ t. field_product c t) (product_comm xm a) ∙ sym (product_assoc c a xm) ∙ ap (λ t. field_product t xm) (product_comm c a) ∙ product_assoc a c xm
    ∙ ap (λ t. field_product a (field_product c t)) (power_swap 2 k m) in
    let right : field_product xm (field_product x v) ≡ weight_of p (suc m) k =
    sym (product_assoc xm x v) ∙ ap (λ t. field_product t v) (product_comm xm x ∙ sym (power_more x m)) in
    ap (λ t. field_product c t) (product_sum_right xm a (field_product x v))
    ∙ product_sum_right c (field_product xm a) (field_product xm (field_product x v))
    ∙ ap₂ (λ s t. bit_xor s t) left (ap (λ t. field_product c t) right)

-- the same over a row
row_more : (a m : ℕ) (p row : List ℕ) → sum_of (weight_of (a ∷ p) m) row ≡ field_sum (field_product a (row_value (field_power 2 m) row)) (sum_of (weight_of p (suc m)) row)
row_more a m p [] =
    sum_none (weight_of (a ∷ p) m)
    ∙ sym (ap₂ (λ s t. bit_xor s t) (ap (λ t. field_product a t) (row_value_none (field_power 2 m)) ∙ product_zero_right a) (sum_none (weight_of p (suc m))))
row_more a m p (c ∷ row) =
    let k : ℕ = length row in
    let z : ℕ = field_power 2 m in
    let ck : ℕ = field_product c (field_power z k) in
    let wk : ℕ = field_product c (weight_of p (suc m) k) in
    let v : ℕ = row_value z row in
    let s : ℕ = sum_of (weight_of p (suc m)) row in
    sum_more (weight_of (a ∷ p) m) c row
    ∙ ap₂ (λ s t. bit_xor s t) (weight_more a c m k p) (row_more a m p row)
    ∙ xor_swap (field_product a ck) wk (field_product a v) s
    ∙ ap₂ (λ s t. bit_xor s t) (sym (product_sum_right a ck v) ∙ ap (λ t. field_product a t) (sym (row_value_more z c row))) (sym (sum_more (weight_of p (suc m)) c row))

-- the syndromes of a row, combined by a polynomial, are its bytes weighted by the polynomial's values
pub combined_is : (p row : List ℕ) (m : ℕ) → combined p (λ k. row_value (field_power 2 k) row) m ≡ sum_of (weight_of p m) row
combined_is [] row m = sym (sum_nothing m row)
combined_is (a ∷ p) row m =
    ap (λ t. bit_xor (field_product a (row_value (field_power 2 m) row)) t) (combined_is p row (suc m)) ∙ sym (row_more a m p row)

-- of terms that are 0 nothing is left
pub combined_zero : (p : List ℕ) (term : ℕ → ℕ) (m n : ℕ) → m + length p ≤ n → ((k : ℕ) → k < n → term k ≡ 0) → combined p term m ≡ 0
combined_zero [] term m n h z = refl
combined_zero (a ∷ p) term m n h z =
    ap₂ (λ s t. bit_xor s t) (ap (λ t. field_product a t) (z m (omega arith)) ∙ product_zero_right a) (combined_zero p term (suc m) n (omega arith) z)

-- ---- polynomials with given roots

pub length-times_root : (x c : ℕ) (p : List ℕ) → length (times_root x c p) ≡ suc (length p)
length-times_root x c [] = refl
length-times_root x c (a ∷ p) = ap (λ n. suc n) (length-times_root x a p)

pub length-roots : (xs : List ℕ) → length (root_polynomial xs) ≡ suc (length xs)
length-roots [] = refl
length-roots (x ∷ xs) = length-times_root x 0 (root_polynomial xs) ∙ ap (λ n. suc n) (length-roots xs)

value-times_root : (x c y : ℕ) (p : List ℕ) → polynomial_value (times_root x c p) y ≡ bit_xor c (field_product (bit_xor x y) (polynomial_value p y))
value-times_root x c y [] = ap (λ t. bit_xor c t) (product_zero_right y ∙ sym (product_zero_right (bit_xor x y)))
value-times_root x c y (a ∷ p) =
    let v : ℕ = polynomial_value p y in
    let s : ℕ = bit_xor x y in
    -- y times (a + s times v) is y times a, and s times y times v
    let inner : field_product y (bit_xor a (field_product s v)) ≡ bit_xor (field_product y a) (field_product s (field_product y v)) =
    product_sum_right y a (field_product s v)
    ∙ ap (λ t. bit_xor (field_product y a) t) (sym (product_assoc y s v) ∙ ap (λ t. field_product t v) (product_comm y s) ∙ product_assoc s y v) in
    ap (λ t. bit_xor (bit_xor c (field_product x a)) (field_product y t)) (value-times_root x a y p)
    ∙ ap (λ t. bit_xor (bit_xor c (field_product x a)) t) inner
    ∙ xor_assoc c (field_product x a) (bit_xor (field_product y a) (field_product s (field_product y v)))
    ∙ ap (λ t. bit_xor c t)
    (sym (xor_assoc (field_product x a) (field_product y a) (field_product s (field_product y v)))
    ∙ ap (λ t. bit_xor t (field_product s (field_product y v))) (sym (product_sum_left x y a))
    ∙ sym (product_sum_right s a (field_product y v)))

pub value_is_differences : (xs : List ℕ) (y : ℕ) → polynomial_value (root_polynomial xs) y ≡ differences xs y
value_is_differences [] y = ap (λ t. bit_xor 1 t) (product_zero_right y)
value_is_differences (x ∷ xs) y = value-times_root x 0 y (root_polynomial xs) ∙ ap (λ t. field_product (bit_xor x y) t) (value_is_differences xs y)
