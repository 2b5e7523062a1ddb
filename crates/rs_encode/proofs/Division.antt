-- Division by the generator polynomial.
use Rattle.std.proofs.Common.{ℕ, zero, suc, List, [], ◌∷◌, ◌++◌, ◌≡◌, ◌+◌, ◌<◌, length, get_or, refl, ap, ap₂, sym, ◌∙◌, arith, bit_xor, lit<, length-append}
use Rattle.std.specs.Int.Bits.{xor_zero_r, xor_zero_l, xor_self, xor_assoc}
use Rattle.std.specs.Prelude.{replicate}
use Rattle.std.specs.List.{All}
use Rattle.std.proofs.lemmas.List.Elements.{All-cons}
use Rattle.fec_spec.specs.Field.{field_product, field_power}
use Rattle.fec_spec.specs.Codeword.{row_value}
use Rattle.field_law.proofs.Products.{xor_swap}
use Rattle.field_law.proofs.Field.{power_none, power_more, product_comm, product_assoc, product_sum_left, product_sum_right, product_zero_left, product_zero_right, product_one_left, power_fits}
use Rattle.erasure_law.proofs.Unique.{xor_none}
use Rattle.erasure_law.proofs.Sums.{row_value_none, row_value_more}
use Rattle.erasure_law.proofs.Rows.{value-append, row_value_push}
use Rattle.rs_encode.specs.Division.{IsNext}

-- a row of zeros
pub value_zeros : (z n : ℕ) → row_value z (replicate n 0) ≡ 0
value_zeros z zero = row_value_none z
value_zeros z (suc n) = row_value_more z 0 (replicate n 0) ∙ ap₂ (λ s t. bit_xor s t) (product_zero_left (field_power z (length (replicate n 0)))) (value_zeros z n)

-- a row that is f times one and another
pub value_sum : (z f : ℕ) (xs us vs : List ℕ) → length us ≡ length xs → length vs ≡ length xs
    → ((k : ℕ) → k < length xs → get_or xs k 0 ≡ bit_xor (field_product f (get_or us k 0)) (get_or vs k 0))
    → row_value z xs ≡ bit_xor (field_product f (row_value z us)) (row_value z vs)
value_sum z f [] [] [] eu ev h =
    row_value_none z ∙ sym (ap₂ (λ s t. bit_xor (field_product f s) t) (row_value_none z) (row_value_none z) ∙ xor_zero_r (field_product f 0) ∙ product_zero_right f)
value_sum z f [] (u ∷ us) vs eu ev h = absurd (omega arith)
value_sum z f [] [] (v ∷ vs) eu ev h = absurd (omega arith)
value_sum z f (x ∷ xs) [] vs eu ev h = absurd (omega arith)
value_sum z f (x ∷ xs) (u ∷ us) [] eu ev h = absurd (omega arith)
value_sum z f (x ∷ xs) (u ∷ us) (v ∷ vs) eu ev h =
    let zn : ℕ = field_power z (length xs) in
    let lu : length us ≡ length xs = omega arith in
    let lv : length vs ≡ length xs = omega arith in
    let head : field_product x zn ≡ bit_xor (field_product f (field_product u zn)) (field_product v zn) =
    ap (λ t. field_product t zn) (h 0 (omega arith)) ∙ product_sum_left (field_product f u) v zn ∙ ap (λ t. bit_xor t (field_product v zn)) (product_assoc f u zn) in
    let ru : row_value z (u ∷ us) ≡ bit_xor (field_product u zn) (row_value z us) = row_value_more z u us ∙ ap (λ k. bit_xor (field_product u (field_power z k)) (row_value z us)) lu in
    let rv : row_value z (v ∷ vs) ≡ bit_xor (field_product v zn) (row_value z vs) = row_value_more z v vs ∙ ap (λ k. bit_xor (field_product v (field_power z k)) (row_value z vs)) lv in
    row_value_more z x xs
    ∙ ap₂ (λ s t. bit_xor s t) head (value_sum z f xs us vs lu lv (λ k lt. h (suc k) (omega arith)))
    ∙ xor_swap (field_product f (field_product u zn)) (field_product v zn) (field_product f (row_value z us)) (row_value z vs)
    ∙ ap₂ (λ s t. bit_xor s t) (sym (product_sum_right f (field_product u zn) (row_value z us)) ∙ ap (λ t. field_product f t) (sym ru)) (sym rv)

-- a byte of a row with a 0 after it
get_or_end : (t : List ℕ) (k : ℕ) → get_or (t ++ 0 ∷ []) k 0 ≡ get_or t k 0
get_or_end [] zero = refl
get_or_end [] (suc k) = refl
get_or_end (x ∷ t) zero = refl
get_or_end (x ∷ t) (suc k) = get_or_end t k

-- what is added twice is away
twice_same : (b c d : ℕ) → bit_xor b (bit_xor (bit_xor b c) d) ≡ bit_xor c d
twice_same b c d = sym (xor_assoc b (bit_xor b c) d) ∙ ap (λ t. bit_xor t d) (sym (xor_assoc b b c) ∙ ap (λ t. bit_xor t c) (xor_self b) ∙ xor_zero_l c)

-- one byte more, where z is a root of the generator
pub encode_step : (z b : ℕ) (front s next g : List ℕ) → length s ≡ 64 → length g ≡ 64 → IsNext g s b next
    → row_value z (1 ∷ g) ≡ 0
    → row_value z (front ++ s) ≡ 0 → row_value z ((front ++ b ∷ []) ++ next) ≡ 0
encode_step z b front [] next g ls lg is root zero_before = absurd (omega arith)
encode_step z b front (s0 ∷ t) next g ls lg is root zero_before =
    let ln : length next ≡ 64 = is.long in
    let z64 : ℕ = field_power z 64 in
    let z63 : ℕ = field_power z 63 in
    let lt : length t ≡ 63 = omega arith in
    let f : ℕ = bit_xor b s0 in
    let gv : ℕ = row_value z g in
    let tv : ℕ = row_value z t in
    let fv : ℕ = row_value z front in
    -- the generator's rest is the 64th power
    let power : z64 ≡ gv =
    xor_none z64 gv (sym (ap (λ s. bit_xor s gv) (ap (λ k. field_product 1 (field_power z k)) lg ∙ product_one_left z64 (power_fits z 64))) ∙ sym (row_value_more z 1 g) ∙ root) in
    -- the shifted state
    let le : length (t ++ 0 ∷ []) ≡ 64 = omega (arith, length-append t (0 ∷ [])) in
    let sv : row_value z (t ++ 0 ∷ []) ≡ field_product z tv =
    row_value_push z 0 t (lit< tt) ∙ xor_zero_r (field_product tv z) ∙ product_comm tv z in
    let nv : row_value z next ≡ bit_xor (bit_xor (field_product b z64) (field_product s0 z64)) (field_product z tv) =
    value_sum z f next g (t ++ 0 ∷ []) (lg ∙ sym ln) (le ∙ sym ln)
    (λ k low. let e : k + 1 ≡ suc k = omega arith in is.each k (omega arith) ∙ ap (λ j. bit_xor (field_product f (get_or g k 0)) (get_or (s0 ∷ t) j 0)) e ∙ ap (λ x. bit_xor (field_product f (get_or g k 0)) x) (sym (get_or_end t k)))
    ∙ ap₂ (λ x y. bit_xor (field_product f x) y) (sym power) sv
    ∙ ap (λ x. bit_xor x (field_product z tv)) (product_sum_left b s0 z64) in
    let before : bit_xor (field_product fv z64) (bit_xor (field_product s0 z63) tv) ≡ 0 =
    sym (value-append z front (s0 ∷ t) ∙ ap₂ (λ k x. bit_xor (field_product fv (field_power z k)) x) ls (row_value_more z s0 t ∙ ap (λ k. bit_xor (field_product s0 (field_power z k)) tv) lt)) ∙ zero_before in
    let m63 : field_product z (field_product s0 z63) ≡ field_product s0 z64 =
    sym (product_assoc z s0 z63) ∙ ap (λ x. field_product x z63) (product_comm z s0) ∙ product_assoc s0 z z63 ∙ ap (λ x. field_product s0 x) (sym (power_more z 63)) in
    let m64 : field_product z (field_product fv z64) ≡ field_product (field_product fv z) z64 =
    sym (product_assoc z fv z64) ∙ ap (λ x. field_product x z64) (product_comm z fv) in
    let scaled : bit_xor (field_product (field_product fv z) z64) (bit_xor (field_product s0 z64) (field_product z tv)) ≡ 0 =
    sym (product_sum_right z (field_product fv z64) (bit_xor (field_product s0 z63) tv)
    ∙ ap₂ (λ x y. bit_xor x y) m64 (product_sum_right z (field_product s0 z63) tv ∙ ap (λ x. bit_xor x (field_product z tv)) m63))
    ∙ ap (λ x. field_product z x) before ∙ product_zero_right z in
    let one : row_value z (b ∷ []) ≡ field_product b 1 = row_value_more z b [] ∙ ap₂ (λ x y. bit_xor (field_product b x) y) (power_none z) (row_value_none z) ∙ xor_zero_r (field_product b 1) in
    value-append z (front ++ b ∷ []) next
    ∙ ap₂ (λ k x. bit_xor (field_product (row_value z (front ++ b ∷ [])) (field_power z k)) x) ln nv
    ∙ ap (λ x. bit_xor (field_product x z64) (bit_xor (bit_xor (field_product b z64) (field_product s0 z64)) (field_product z tv)))
    (value-append z front (b ∷ []) ∙ ap₂ (λ x y. bit_xor (field_product fv x) y) (power_more z 0 ∙ ap (λ x. field_product z x) (power_none z)) one)
    ∙ ap (λ x. bit_xor x (bit_xor (bit_xor (field_product b z64) (field_product s0 z64)) (field_product z tv))) (product_sum_left (field_product fv (field_product z 1)) (field_product b 1) z64
    ∙ ap₂ (λ x y. bit_xor x y)
    (ap (λ x. field_product x z64) (sym (product_assoc fv z 1)) ∙ product_assoc (field_product fv z) 1 z64 ∙ ap (λ x. field_product (field_product fv z) x) (product_one_left z64 (power_fits z 64)))
    (product_assoc b 1 z64 ∙ ap (λ x. field_product b x) (product_one_left z64 (power_fits z 64))))
    ∙ xor_assoc (field_product (field_product fv z) z64) (field_product b z64) (bit_xor (bit_xor (field_product b z64) (field_product s0 z64)) (field_product z tv))
    ∙ ap (λ x. bit_xor (field_product (field_product fv z) z64) x) (twice_same (field_product b z64) (field_product s0 z64) (field_product z tv))
    ∙ scaled

-- zeros are bytes
pub zeros_small : (n : ℕ) → All (λ b. b < 256) (replicate n 0)
zeros_small zero = λ k d lt. absurd (omega arith)
zeros_small (suc n) = All-cons (λ b. b < 256) 0 (replicate n 0) (lit< tt) (zeros_small n)
