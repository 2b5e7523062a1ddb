-- Horner's rule over every seventeenth column, and then over the seventeen values of them.
use Rattle.std.proofs.Common.{ℕ, zero, suc, List, ◌≡◌, ◌+◌, ◌-◌, ◌*◌, ◌/◌, ◌%◌, ◌^◌, ◌<◌, ◌≤◌, length, get_or, take, ap, ap₂, sym, ◌∙◌, arith, bit_xor}
use Rattle.std.proofs.Math.Nat.{mul_assoc}
use Rattle.std.specs.Int.Bits.{xor_zero_r, xor_assoc}
use Rattle.std.proofs.lemmas.List.{take_all}
use Rattle.fec_spec.specs.Field.{field_product, field_power}
use Rattle.fec_spec.specs.Codeword.{row_value}
use Rattle.fec_spec.specs.Table.{table_row}
use Rattle.field_law.proofs.Field.{power_none, power_more, power_fits, powers_not_zero, product_fits, product_comm, product_assoc, product_sum_left, product_zero_left, product_one_right}
use Rattle.field_law.proofs.Powers.{power-add, power-power, power_255}
use Rattle.field_law.proofs.Products.{xor_swap}
use Rattle.erasure_law.proofs.Sums.{row_value_none}
use Rattle.erasure_law.proofs.Tables.{length-table_row}
use Rattle.gf256.proofs.Horner.{horner_none, horner_more}
use Rattle.rs_erasure.specs.Columns.{cell}
use Rattle.gf256.specs.Horner.{horner_value}
use Rattle.rs_erasure.proofs.Changes.{cell_is}
use Rattle.rs_erasure.proofs.Runs.{value_step, cell_fits}

-- a value is a byte, and so is its product with 1
horner_one : (z : ℕ) (f : ℕ → ℕ) (n : ℕ) → ((i : ℕ) → f i < 2 ^ 8) → field_product (horner_value z f n) 1 ≡ horner_value z f n
horner_one z f zero fits = ap (λ t. field_product t 1) (horner_none z f) ∙ product_zero_left 1 ∙ sym (horner_none z f)
horner_one z f (suc n) fits =
    let v : ℕ = field_product (horner_value z f n) z in
    ap (λ t. field_product t 1) (horner_more z f n)
    ∙ product_sum_left v (f n) 1
    ∙ ap₂ (λ s t. bit_xor s t) (product_one_right v (product_fits (horner_value z f n) z)) (product_one_right (f n) (fits n))
    ∙ sym (horner_more z f n)

pub horner_same : (z : ℕ) (f g : ℕ → ℕ) (n : ℕ) → ((i : ℕ) → i < n → f i ≡ g i) → horner_value z f n ≡ horner_value z g n
horner_same z f g zero same = horner_none z f ∙ sym (horner_none z g)
horner_same z f g (suc n) same =
    horner_more z f n
    ∙ ap₂ (λ s t. bit_xor (field_product s z) t) (horner_same z f g n (λ i low. same i (omega (arith, low)))) (same n (omega arith))
    ∙ sym (horner_more z g n)

horner_zero : (z : ℕ) (f : ℕ → ℕ) (n : ℕ) → ((i : ℕ) → f i ≡ 0) → horner_value z f n ≡ 0
horner_zero z f zero zeros = horner_none z f
horner_zero z f (suc n) zeros =
    horner_more z f n
    ∙ ap₂ (λ s t. bit_xor (field_product s z) t) (horner_zero z f n zeros) (zeros n)
    ∙ ap (λ t. bit_xor t 0) (product_zero_left z)

-- of two pieces
horner_split : (z : ℕ) (f : ℕ → ℕ) (a k : ℕ) → ((i : ℕ) → f i < 2 ^ 8)
    → horner_value z f (a + k) ≡ bit_xor (field_product (horner_value z f a) (field_power z k)) (horner_value z (λ i. f (a + i)) k)
horner_split z f a zero fits =
    let e : a + 0 ≡ a = omega arith in
    let v : ℕ = horner_value z f a in
    ap (λ n. horner_value z f n) e
    ∙ sym (ap₂ (λ s t. bit_xor (field_product v s) t) (power_none z) (horner_none z (λ i. f (a + i)))
    ∙ xor_zero_r (field_product v 1)
    ∙ horner_one z f a fits)
horner_split z f a (suc k) fits =
    let e : a + suc k ≡ suc (a + k) = omega arith in
    let g : ℕ → ℕ = λ i. f (a + i) in
    let v : ℕ = horner_value z f a in
    let p : ℕ = field_power z k in
    let w : ℕ = horner_value z g k in
    ap (λ n. horner_value z f n) e
    ∙ horner_more z f (a + k)
    ∙ ap (λ t. bit_xor (field_product t z) (f (a + k))) (horner_split z f a k fits)
    ∙ ap (λ t. bit_xor t (f (a + k))) (product_sum_left (field_product v p) w z)
    ∙ xor_assoc (field_product (field_product v p) z) (field_product w z) (f (a + k))
    ∙ ap₂ (λ s t. bit_xor s t)
    (product_assoc v p z ∙ ap (λ t. field_product v t) (product_comm p z ∙ sym (power_more z k)))
    (sym (horner_more z g k))

-- of coefficients that are sums
horner_linear : (z y : ℕ) (f u w : ℕ → ℕ) (k : ℕ) → ((i : ℕ) → i < k → f i ≡ bit_xor (field_product (u i) y) (w i))
    → horner_value z f k ≡ bit_xor (field_product (horner_value z u k) y) (horner_value z w k)
horner_linear z y f u w zero same =
    horner_none z f
    ∙ sym (ap₂ (λ s t. bit_xor (field_product s y) t) (horner_none z u) (horner_none z w) ∙ ap (λ t. bit_xor t 0) (product_zero_left y))
horner_linear z y f u w (suc k) same =
    let a : ℕ = horner_value z u k in
    let b : ℕ = horner_value z w k in
    horner_more z f k
    ∙ ap₂ (λ s t. bit_xor (field_product s z) t) (horner_linear z y f u w k (λ i low. same i (omega (arith, low)))) (same k (omega arith))
    ∙ ap (λ t. bit_xor t (bit_xor (field_product (u k) y) (w k))) (product_sum_left (field_product a y) b z)
    ∙ xor_swap (field_product (field_product a y) z) (field_product b z) (field_product (u k) y) (w k)
    ∙ ap₂ (λ s t. bit_xor s t)
    (ap (λ t. bit_xor t (field_product (u k) y)) (product_assoc a y z ∙ ap (λ t. field_product a t) (product_comm y z) ∙ sym (product_assoc a z y))
    ∙ sym (product_sum_left (field_product a z) (u k) y)
    ∙ ap (λ t. field_product t y) (sym (horner_more z u k)))
    (sym (horner_more z w k))

-- over every s-th coefficient first
pub horner_nested : (z y : ℕ) (f : ℕ → ℕ) (s n : ℕ) → y ≡ field_power z s → ((i : ℕ) → f i < 2 ^ 8)
    → horner_value z f (n * s) ≡ horner_value z (λ b. horner_value y (λ q. f (b + q * s)) n) s
horner_nested z y f s zero e fits =
    let none : zero * s ≡ 0 = omega arith in
    ap (λ k. horner_value z f k) none ∙ horner_none z f ∙ sym (horner_zero z (λ b. horner_value y (λ q. f (b + q * s)) 0) s (λ b. horner_none y (λ q. f (b + q * s))))
horner_nested z y f s (suc n) e fits =
    let u : ℕ → ℕ = λ b. horner_value y (λ q. f (b + q * s)) n in
    let w : ℕ → ℕ = λ b. f (n * s + b) in
    let whole : suc n * s ≡ n * s + s = omega arith in
    ap (λ k. horner_value z f k) whole
    ∙ horner_split z f (n * s) s fits
    ∙ ap₂ (λ v t. bit_xor (field_product v t) (horner_value z w s)) (horner_nested z y f s n e fits) (sym e)
    ∙ sym (horner_linear z y (λ b. horner_value y (λ q. f (b + q * s)) (suc n)) u w s
    (λ b low.
    let at : b + n * s ≡ n * s + b = omega arith in
    horner_more y (λ q. f (b + q * s)) n ∙ ap (λ k. bit_xor (field_product (u b) y) (f k)) at))

-- over the columns of a table
horner_row : (rows : ℕ) (table : List ℕ) (r z n : ℕ) → ((i : ℕ) → get_or table i 0 < 2 ^ 8) → n ≤ 255
    → horner_value z (λ j. cell rows table j r) n ≡ row_value z (take n (table_row 255 rows table r))
horner_row rows table r z zero bytes le = horner_none z (λ j. cell rows table j r) ∙ sym (row_value_none z)
horner_row rows table r z (suc n) bytes le =
    let e : n + 1 ≡ suc n = omega arith in
    horner_more z (λ j. cell rows table j r) n
    ∙ value_step rows table r z n (horner_value z (λ j. cell rows table j r) n) bytes (omega (arith, le)) (horner_row rows table r z n bytes (omega (arith, le)))
    ∙ ap (λ k. row_value z (take k (table_row 255 rows table r))) e

-- powers of 2 go round after 255
power_turn : (m : ℕ) → field_power 2 (17 * (m % 15)) ≡ field_power (field_power 2 m) 17
power_turn m =
    let d : ℕ = m / 15 in
    let k : ℕ = 17 * (m % 15) in
    let whole : m * 17 ≡ k + d * 255 = omega arith in
    let p : ℕ = field_power 2 k in
    sym (power-power 2 m 17
    ∙ ap (λ n. field_power 2 n) whole
    ∙ power-add 2 k (d * 255)
    ∙ ap (λ t. field_product p t) (sym (power-power 2 d 255) ∙ power_255 (field_power 2 d) (power_fits 2 d) (powers_not_zero d))
    ∙ product_one_right p (power_fits 2 k))

-- the power 5 of the power 17 × k is that of the third
power_third : (n h : ℕ) → field_power 2 (85 * h) ≡ field_power (field_power 2 (17 * (n * 3 + h))) 5
power_third n h =
    let k : ℕ = 85 * h in
    let whole : 17 * (n * 3 + h) * 5 ≡ k + n * 255 = omega arith in
    let p : ℕ = field_power 2 k in
    sym (power-power 2 (17 * (n * 3 + h)) 5
    ∙ ap (λ i. field_power 2 i) whole
    ∙ power-add 2 k (n * 255)
    ∙ ap (λ t. field_product p t) (sym (power-power 2 n 255) ∙ power_255 (field_power 2 n) (power_fits 2 n) (powers_not_zero n))
    ∙ product_one_right p (power_fits 2 k))

-- a class value, from the thirds
pub class_of_thirds : (rows : ℕ) (table thirds : List ℕ) (n h b i r : ℕ) → ((j : ℕ) → get_or table j 0 < 2 ^ 8)
    → ((a : ℕ) → a < 5 → cell 256 thirds (b + a * 17) i ≡ horner_value (field_power 2 (85 * h)) (λ t. cell rows table (b + a * 17 + t * 85) r) 3)
    → horner_value (field_power 2 (17 * (n * 3 + h))) (λ a. cell 256 thirds (b + a * 17) i) 5 ≡ horner_value (field_power 2 (17 * (n * 3 + h))) (λ q. cell rows table (b + q * 17) r) 15
class_of_thirds rows table thirds n h b i r bytes are =
    let z : ℕ = field_power 2 (17 * (n * 3 + h)) in
    let y : ℕ = field_power 2 (85 * h) in
    let f : ℕ → ℕ = λ q. cell rows table (b + q * 17) r in
    horner_same z (λ a. cell 256 thirds (b + a * 17) i) (λ a. horner_value y (λ t. f (a + t * 5)) 3) 5
    (λ a low.
    are a low
    ∙ horner_same y (λ t. cell rows table (b + a * 17 + t * 85) r) (λ t. f (a + t * 5)) 3
    (λ t lt. let e : b + a * 17 + t * 85 ≡ b + (a + t * 5) * 17 = omega arith in ap (λ k. cell rows table k r) e))
    ∙ sym (horner_nested z y f 5 3 (power_third n h) (λ q. cell_fits rows table (b + q * 17) r bytes))

-- the value of a row, from those of its classes
pub value_of_classes : (rows : ℕ) (table : List ℕ) (r m : ℕ) (c : ℕ → ℕ) → ((i : ℕ) → get_or table i 0 < 2 ^ 8)
    → ((b : ℕ) → b < 17 → c b ≡ horner_value (field_power 2 (17 * (m % 15))) (λ q. cell rows table (b + q * 17) r) 15)
    → horner_value (field_power 2 m) c 17 ≡ row_value (field_power 2 m) (table_row 255 rows table r)
value_of_classes rows table r m c bytes are =
    let z : ℕ = field_power 2 m in
    let y : ℕ = field_power 2 (17 * (m % 15)) in
    let f : ℕ → ℕ = λ j. cell rows table j r in
    let l : length (table_row 255 rows table r) ≡ 255 = length-table_row 255 rows table r in
    horner_same z c (λ b. horner_value y (λ q. f (b + q * 17)) 15) 17 are
    ∙ sym (horner_nested z y f 17 15 (power_turn m) (λ j. cell_fits rows table j r bytes))
    ∙ horner_row rows table r z 255 bytes (omega arith)
    ∙ ap (λ (t : List ℕ). row_value z t) (take_all 255 (table_row 255 rows table r) (omega arith))

-- a byte of a column, told by the places of a buffer
column_place : (first apart rows from q k : ℕ) → first * rows + from + q * (apart * rows) + k ≡ (first + q * apart) * rows + (from + k)
column_place first apart rows from q k =
    let e : (first + q * apart) * rows ≡ first * rows + q * apart * rows = omega arith in
    let h : q * apart * rows ≡ q * (apart * rows) = mul_assoc q apart rows in
    omega (arith, e, h)

-- the last of some columns ends within the buffer
pub columns_end : (first apart count rows room : ℕ) → (first + (count - 1) * apart + 1) * rows ≤ room → first * rows + (count - 1) * (apart * rows) + rows ≤ room
columns_end first apart count rows room le =
    let e : first * rows + 0 + (count - 1) * (apart * rows) + rows ≡ (first + (count - 1) * apart) * rows + (0 + rows) = column_place first apart rows 0 (count - 1) rows in
    let h : (first + (count - 1) * apart + 1) * rows ≡ (first + (count - 1) * apart) * rows + 1 * rows = omega arith in
    omega (arith, e, h, le)

-- the values of some columns in a row
pub values_at : (z first apart count rows from : ℕ) (source : List ℕ) (i k : ℕ) → from + i ≡ k
    → horner_value z (λ q. get_or source (first * rows + from + q * (apart * rows) + i) 0) count ≡ horner_value z (λ q. cell rows source (first + q * apart) k) count
values_at z first apart count rows from source i k e =
    horner_same z (λ q. get_or source (first * rows + from + q * (apart * rows) + i) 0) (λ q. cell rows source (first + q * apart) k) count
    (λ q low.
    let p : first * rows + from + q * (apart * rows) + i ≡ (first + q * apart) * rows + k = omega (arith, column_place first apart rows from q i) in
    ap (λ n. get_or source n 0) p ∙ sym (cell_is rows source (first + q * apart) k))
