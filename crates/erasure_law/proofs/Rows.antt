-- The value of a row in pieces, and with one more byte.
use Rattle.std.proofs.Common.{ℕ, suc, List, [], ◌∷◌, ◌++◌, ◌≡◌, ◌+◌, ◌^◌, ◌<◌, length, ap, ap₂, sym, ◌∙◌, arith, bit_xor, length-append}
use Rattle.std.specs.Int.Bits.{xor_zero_r, xor_assoc}
use Rattle.fec_spec.specs.Field.{field_product, field_power}
use Rattle.fec_spec.specs.Codeword.{row_value}
use Rattle.field_law.proofs.Field.{power_none, power_more, product_comm, product_assoc, product_sum_left, product_zero_left, product_one_right}
use Rattle.field_law.proofs.Powers.{power-add}
use Rattle.erasure_law.proofs.Sums.{row_value_none, row_value_more}

-- of two pieces
pub value-append : (z : ℕ) (xs ys : List ℕ) → row_value z (xs ++ ys) ≡ bit_xor (field_product (row_value z xs) (field_power z (length ys))) (row_value z ys)
value-append z [] ys = sym (ap (λ t. bit_xor t (row_value z ys)) (ap (λ t. field_product t (field_power z (length ys))) (row_value_none z) ∙ product_zero_left (field_power z (length ys))))
value-append z (x ∷ xs) ys =
    let n : ℕ = length xs in
    let m : ℕ = length ys in
    let v : ℕ = row_value z xs in
    let w : ℕ = row_value z ys in
    let e : length (xs ++ ys) ≡ n + m = length-append xs ys in
    row_value_more z x (xs ++ ys)
    ∙ ap₂ (λ s t. bit_xor (field_product x s) t) (ap (λ k. field_power z k) e ∙ power-add z n m) (value-append z xs ys)
    ∙ ap (λ t. bit_xor t (bit_xor (field_product v (field_power z m)) w)) (sym (product_assoc x (field_power z n) (field_power z m)))
    ∙ sym (xor_assoc (field_product (field_product x (field_power z n)) (field_power z m)) (field_product v (field_power z m)) w)
    ∙ ap (λ t. bit_xor t w) (sym (product_sum_left (field_product x (field_power z n)) v (field_power z m)) ∙ ap (λ t. field_product t (field_power z m)) (sym (row_value_more z x xs)))

-- one more byte, by Horner's rule
pub row_value_push : (z c : ℕ) (row : List ℕ) → c < 2 ^ 8 → row_value z (row ++ c ∷ []) ≡ bit_xor (field_product (row_value z row) z) c
row_value_push z c [] h =
    row_value_more z c [] ∙ ap₂ (λ x y. bit_xor (field_product c x) y) (power_none z) (row_value_none z) ∙ xor_zero_r (field_product c 1) ∙ product_one_right c h
    ∙ sym (ap (λ t. bit_xor t c) (ap (λ t. field_product t z) (row_value_none z) ∙ product_zero_left z))
row_value_push z c (x ∷ row) h =
    let n : ℕ = length row in
    let xn : ℕ = field_product x (field_power z n) in
    let v : ℕ = row_value z row in
    let e : length (row ++ c ∷ []) ≡ suc n = omega (arith, length-append row (c ∷ [])) in
    row_value_more z x (row ++ c ∷ [])
    ∙ ap₂ (λ s t. bit_xor (field_product x s) t) (ap (λ k. field_power z k) e ∙ power_more z n ∙ product_comm z (field_power z n)) (row_value_push z c row h)
    ∙ ap (λ t. bit_xor t (bit_xor (field_product v z) c)) (sym (product_assoc x (field_power z n) z))
    ∙ sym (xor_assoc (field_product xn z) (field_product v z) c)
    ∙ ap (λ t. bit_xor t c) (sym (product_sum_left xn v z) ∙ ap (λ t. field_product t z) (sym (row_value_more z x row)))
