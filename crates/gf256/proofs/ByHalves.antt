-- The tables have the products of halves, and a product is a sum of theirs.
use Rattle.std.proofs.Common.{ℕ, List, [], ◌≡◌, ◌+◌, ◌*◌, ◌/◌, ◌%◌, ◌^◌, ◌<◌, ◌≤◌, ◌==◌, get_or, true, refl, ap, ap₂, sym, ◌∙◌, arith, bit_xor}
use Rattle.std.proofs.Math.Nat.{mul-le-mul}
use Rattle.std.proofs.lemmas.Bool.{agree_below, agree_below_at, eqb-true}
use Rattle.division_law.specs.Registers.{register_steps}
use Rattle.fec_spec.specs.Field.{field_product}
use Rattle.field_law.proofs.Field.{product_comm, product_halves}
use Rattle.field_law.proofs.Shifts.{by_shifts, product_is}
use Rattle.gf256.specs.declared.halves.TheConstants.{HIGH_HIGH, HIGH_LOW, LOW_LOW}

-- 256 entries that agree with the products agree at each two halves
entry_at : (table : List (List ℕ)) (s t : ℕ) → s < 17 → t < 17
    → agree_below (λ n. true) (λ n. get_or (get_or table (n / 16) []) (n % 16) 0 == by_shifts 8 (n / 16 * s) (n % 16 * t)) 256 ≡ true
    → (x i : ℕ) → x < 16 → i < 16 → get_or (get_or table x []) i 0 ≡ field_product (x * s) (i * t)
entry_at table s t low_s low_t all x i low_x low_i =
    let n : ℕ = x * 16 + i in
    let e : n / 16 ≡ x = omega arith in
    let f : n % 16 ≡ i = omega arith in
    let small : i * t < 2 ^ 8 = entry_small i t low_i low_t in
    let same = eqb-true (get_or (get_or table (n / 16) []) (n % 16) 0) (by_shifts 8 (n / 16 * s) (n % 16 * t))
    (sym (agree_below_at (λ n. true) (λ n. get_or (get_or table (n / 16) []) (n % 16) 0 == by_shifts 8 (n / 16 * s) (n % 16 * t)) 256 n all (omega arith))) in
    ap₂ (λ (a : ℕ) (b : ℕ). get_or (get_or table a []) b 0) (sym e) (sym f)
    ∙ same
    ∙ ap₂ (λ (a : ℕ) (b : ℕ). by_shifts 8 (a * s) (b * t)) e f
    ∙ sym (product_is (x * s) (i * t) small)
  where
    entry_small : (i t : ℕ) → i < 16 → t < 17 → i * t < 2 ^ 8
    entry_small i t low_i low_t =
        let h : i * t ≤ 15 * 16 = mul-le-mul {n₁ = i} {m₁ = t} {n₂ = 15} {m₂ = 16} (omega arith) (omega arith) in
        omega arith

-- each table: its 256 entries are compared by computation
all_low_low : agree_below (λ n. true) (λ n. get_or (get_or LOW_LOW (n / 16) []) (n % 16) 0 == by_shifts 8 (n / 16 * 1) (n % 16 * 1)) 256 ≡ true
unfolding by_shifts register_steps
all_low_low = refl

all_high_low : agree_below (λ n. true) (λ n. get_or (get_or HIGH_LOW (n / 16) []) (n % 16) 0 == by_shifts 8 (n / 16 * 16) (n % 16 * 1)) 256 ≡ true
unfolding by_shifts register_steps
all_high_low = refl

all_low_high : agree_below (λ n. true) (λ n. get_or (get_or HIGH_LOW (n / 16) []) (n % 16) 0 == by_shifts 8 (n / 16 * 1) (n % 16 * 16)) 256 ≡ true
unfolding by_shifts register_steps
all_low_high = refl

all_high_high : agree_below (λ n. true) (λ n. get_or (get_or HIGH_HIGH (n / 16) []) (n % 16) 0 == by_shifts 8 (n / 16 * 16) (n % 16 * 16)) 256 ≡ true
unfolding by_shifts register_steps
all_high_high = refl

-- the product with a factor by the halves of the other
product_by_halves : (v c : ℕ) → bit_xor (field_product (v / 16 * 16) c) (field_product (v % 16 * 1) c) ≡ field_product v c
product_by_halves v c =
    let e : v % 16 * 1 ≡ v % 16 = omega arith in
    ap₂ bit_xor (product_comm (v / 16 * 16) c) (ap (λ t. field_product t c) e ∙ product_comm (v % 16) c) ∙ sym (product_halves c v) ∙ product_comm c v

-- by the rows of the tables: with a number below 16
pub low_is : (v i : ℕ) → v < 256 → i < 16 → bit_xor (get_or (get_or HIGH_LOW (v / 16) []) i 0) (get_or (get_or LOW_LOW (v % 16) []) i 0) ≡ field_product v i
low_is v i fits low =
    let e : i * 1 ≡ i = omega arith in
    ap₂ bit_xor (entry_at HIGH_LOW 16 1 (omega arith) (omega arith) all_high_low (v / 16) i (omega arith) low)
    (entry_at LOW_LOW 1 1 (omega arith) (omega arith) all_low_low (v % 16) i (omega arith) low)
    ∙ product_by_halves v (i * 1) ∙ ap (λ t. field_product v t) e

-- with a multiple of 16
pub high_is : (v i : ℕ) → v < 256 → i < 16 → bit_xor (get_or (get_or HIGH_HIGH (v / 16) []) i 0) (get_or (get_or HIGH_LOW (v % 16) []) i 0) ≡ field_product v (i * 16)
high_is v i fits low =
    ap₂ bit_xor (entry_at HIGH_HIGH 16 16 (omega arith) (omega arith) all_high_high (v / 16) i (omega arith) low)
    (entry_at HIGH_LOW 1 16 (omega arith) (omega arith) all_low_high (v % 16) i (omega arith) low)
    ∙ product_by_halves v (i * 16)

-- with any byte
pub product_of_halves : (a b : ℕ) → a < 256 → b < 256
    → bit_xor (bit_xor (get_or (get_or HIGH_HIGH (a / 16) []) (b / 16) 0) (get_or (get_or HIGH_LOW (a % 16) []) (b / 16) 0))
    (bit_xor (get_or (get_or HIGH_LOW (a / 16) []) (b % 16) 0) (get_or (get_or LOW_LOW (a % 16) []) (b % 16) 0)) ≡ field_product a b
product_of_halves a b fits_a fits_b =
    ap₂ bit_xor (high_is a (b / 16) fits_a (omega arith)) (low_is a (b % 16) fits_a (omega arith)) ∙ sym (product_halves a b)
