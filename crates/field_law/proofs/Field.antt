-- The laws of the field, for the words of fec_spec: from shifts and logarithms to any numbers.
use Rattle.std.proofs.Common.{ℕ, zero, suc, ◌≡◌, ◌+◌, ◌-◌, ◌*◌, ◌/◌, ◌%◌, ◌^◌, ◌<◌, ◌==◌, inl, inr, refl, ap, ap₂, sym, subst, ◌∙◌, arith, Bool, true, false, bit_xor, lit<, ◌&&◌, ◌||◌, add_comm}
use Rattle.std.specs.Prelude.{nat_lt, if◌then◌else◌}
use Rattle.std.specs.Int.{bit_at}
use Rattle.std.specs.Int.Bits.{xor_mod, xor_shifted}
use Rattle.std.proofs.lemmas.Bool.{agree_below, agree_below_at, eqb-true, cases_eq, or_cases, and_parts, ltb-true}
use Rattle.std.proofs.Math.Nat.{mod-eq_of_lt}
use Rattle.fec_spec.specs.Field.{field_product, field_power}
use Rattle.division_law.specs.Registers.{register_steps}
use Rattle.division_law.proofs.Registers.{steps_none}
use Rattle.field_law.proofs.Shifts.{shifts, by_shifts, by_shifts_none, by_shifts_more, by_shifts_fit, product_is, product-mod}
use Rattle.field_law.proofs.Products.{log, logs, log_test, shifts_left, shifts_fit, shifts_zero, shifts_shifts, power_left, at_zero, at_0, at_1}

-- the product of bytes
abbrev pub times : ℕ → ℕ → ℕ
times a b = by_shifts 8 a b

fits1 : 1 < 2 ^ 8
fits1 = lit< tt

pub power_none : (z : ℕ) → field_power z 0 ≡ 1
unfolding field_power
power_none z = refl

pub power_more : (z n : ℕ) → field_power z (suc n) ≡ field_product z (field_power z n)
unfolding field_power
power_more z n = refl

-- each byte but 0 is a power of 2
pub log_is : (a : ℕ) → a < 2 ^ 8 → (a ≡ 0 → ⊥) → (shifts (log a) 1 ≡ a) × (log a < 255)
log_is a h ne =
    let all : true ≡ ((a == 0) || ((shifts (log a) 1 == a) && nat_lt (log a) 255)) =
    agree_below_at (λ a. true) (λ a. (a == 0) || ((shifts (log a) 1 == a) && nat_lt (log a) 255)) 256 a log_test h in
    elim (or_cases (a == 0) ((shifts (log a) 1 == a) && nat_lt (log a) 255) (sym all)) [
      | inl z ↦ absurd (ne (eqb-true a 0 z))
      | inr r ↦
          let p : ((shifts (log a) 1 == a) ≡ true) × (nat_lt (log a) 255 ≡ true) = and_parts (shifts (log a) 1 == a) (nat_lt (log a) 255) r in
          (eqb-true (shifts (log a) 1) a (p.0), ltb-true (log a) 255 (p.1))
    ]

if_zero : (x : Bool) (n : ℕ) → (if x then shifts n 0 else 0) ≡ 0
if_zero false n = refl
if_zero true n = shifts_zero n

right_zero : (n a : ℕ) → by_shifts n a 0 ≡ 0
right_zero zero a = by_shifts_none a 0
right_zero (suc n) a = by_shifts_more n a 0 ∙ ap₂ (λ x y. bit_xor x y) (if_zero (bit_at a n == 1) n) (right_zero n a)

times_powers : (n m : ℕ) → times (shifts n 1) (shifts m 1) ≡ shifts (n + m) 1
times_powers n m = power_left n (shifts m 1) (shifts_fit m 1 fits1) ∙ shifts_shifts n m 1

times_logs : (a b : ℕ) → a < 2 ^ 8 → b < 2 ^ 8 → (a ≡ 0 → ⊥) → (b ≡ 0 → ⊥) → times a b ≡ shifts (log a + log b) 1
times_logs a b ha hb na nb =
    let la = log_is a ha na in
    let lb = log_is b hb nb in
    sym (ap₂ (λ x y. times x y) (la.0) (lb.0)) ∙ times_powers (log a) (log b)

times_comm : (a b : ℕ) → a < 2 ^ 8 → b < 2 ^ 8 → times a b ≡ times b a
times_comm a b ha hb =
    elim (cases_eq a 0) [
      | inl z ↦ ap (λ t. times t b) z ∙ at_zero b ∙ sym (right_zero 8 b) ∙ ap (λ t. times b t) (sym z)
      | inr na ↦ elim (cases_eq b 0) [
        | inl z ↦ ap (λ t. times a t) z ∙ right_zero 8 a ∙ sym (at_zero a) ∙ ap (λ t. times t a) (sym z)
        | inr nb ↦ times_logs a b ha hb na nb ∙ ap (λ n. shifts n 1) (add_comm (log a) (log b)) ∙ sym (times_logs b a hb ha nb na)
      ]
    ]

-- the product by a power, on either side
times_power : (a b : ℕ) → a < 2 ^ 8 → b < 2 ^ 8 → (a ≡ 0 → ⊥) → times a b ≡ shifts (log a) b
times_power a b ha hb na = ap (λ t. times t b) (sym (log_is a ha na).0) ∙ power_left (log a) b hb

times_assoc : (a b c : ℕ) → a < 2 ^ 8 → b < 2 ^ 8 → c < 2 ^ 8 → times (times a b) c ≡ times a (times b c)
times_assoc a b c ha hb hc =
    elim (cases_eq a 0) [
      | inl z ↦ ap (λ t. times (times t b) c) z ∙ ap (λ t. times t c) (at_zero b) ∙ at_zero c ∙ sym (at_zero (times b c)) ∙ ap (λ t. times t (times b c)) (sym z)
      | inr na ↦ elim (cases_eq b 0) [
        | inl z ↦ ap (λ t. times (times a t) c) z ∙ ap (λ t. times t c) (right_zero 8 a) ∙ at_zero c
            ∙ sym (ap (λ t. times a (times t c)) z ∙ ap (λ t. times a t) (at_zero c) ∙ right_zero 8 a)
        | inr nb ↦
            ap (λ t. times t c) (times_logs a b ha hb na nb) ∙ power_left (log a + log b) c hc
            ∙ sym (shifts_shifts (log a) (log b) c)
            ∙ ap (λ t. shifts (log a) t) (sym (times_power b c hb hc nb))
            ∙ sym (times_power a (times b c) ha (by_shifts_fit 8 b c hc) na)
      ]
    ]

-- ---- the laws of the field's product, of any two numbers, since only their lowest eight bits count

low : (a : ℕ) → a % 2 ^ 8 < 2 ^ 8
low a = omega arith

is_times : (a b : ℕ) → field_product a b ≡ times (a % 2 ^ 8) (b % 2 ^ 8)
is_times a b = sym (product-mod a b) ∙ product_is (a % 2 ^ 8) (b % 2 ^ 8) (low b)

pub product_fits : (a b : ℕ) → field_product a b < 2 ^ 8
product_fits a b = subst (λ t. t < 2 ^ 8) (sym (is_times a b)) (by_shifts_fit 8 (a % 2 ^ 8) (b % 2 ^ 8) (low b))

pub product_comm : (a b : ℕ) → field_product a b ≡ field_product b a
product_comm a b = is_times a b ∙ times_comm (a % 2 ^ 8) (b % 2 ^ 8) (low a) (low b) ∙ sym (is_times b a)

pub product_assoc : (a b c : ℕ) → field_product (field_product a b) c ≡ field_product a (field_product b c)
product_assoc a b c =
    let x : ℕ = a % 2 ^ 8 in
    let y : ℕ = b % 2 ^ 8 in
    let z : ℕ = c % 2 ^ 8 in
    let ab : field_product a b % 2 ^ 8 ≡ times x y = mod-eq_of_lt (product_fits a b) ∙ is_times a b in
    let bc : field_product b c % 2 ^ 8 ≡ times y z = mod-eq_of_lt (product_fits b c) ∙ is_times b c in
    is_times (field_product a b) c ∙ ap (λ t. times t z) ab
    ∙ times_assoc x y z (low a) (low b) (low c)
    ∙ ap (λ t. times x t) (sym bc) ∙ sym (is_times a (field_product b c))

-- over the sum
pub product_sum_left : (a b c : ℕ) → field_product (bit_xor a b) c ≡ bit_xor (field_product a c) (field_product b c)
product_sum_left a b c =
    is_times (bit_xor a b) c
    ∙ ap (λ t. times t (c % 2 ^ 8)) (xor_mod a b 8)
    ∙ shifts_left 8 (a % 2 ^ 8) (b % 2 ^ 8) (c % 2 ^ 8)
    ∙ ap₂ (λ x y. bit_xor x y) (sym (is_times a c)) (sym (is_times b c))

pub product_sum_right : (a b c : ℕ) → field_product a (bit_xor b c) ≡ bit_xor (field_product a b) (field_product a c)
product_sum_right a b c =
    product_comm a (bit_xor b c) ∙ product_sum_left b c a ∙ ap₂ (λ x y. bit_xor x y) (product_comm b a) (product_comm c a)

pub product_zero_left : (b : ℕ) → field_product 0 b ≡ 0
product_zero_left b = is_times 0 b ∙ at_zero (b % 2 ^ 8)

pub product_zero_right : (a : ℕ) → field_product a 0 ≡ 0
product_zero_right a = is_times a 0 ∙ right_zero 8 (a % 2 ^ 8)

pub product_one_left : (b : ℕ) → b < 2 ^ 8 → field_product 1 b ≡ b
product_one_left b h =
    is_times 1 b ∙ ap (λ t. times 1 t) (mod-eq_of_lt h) ∙ at_0 b ∙ steps_none 7 0x1D b

pub product_one_right : (a : ℕ) → a < 2 ^ 8 → field_product a 1 ≡ a
product_one_right a h = product_comm a 1 ∙ product_one_left a h

-- the powers of 2 are the shifts of 1
pub power_two : (n : ℕ) → field_power 2 n ≡ shifts n 1
power_two zero = power_none 2 ∙ sym (steps_none 7 0x1D 1)
power_two (suc n) =
    let e : field_power 2 n % 2 ^ 8 ≡ shifts n 1 = ap (λ t. t % 2 ^ 8) (power_two n) ∙ mod-eq_of_lt (shifts_fit n 1 fits1) in
    power_more 2 n ∙ is_times 2 (field_power 2 n) ∙ ap (λ t. times 2 t) e ∙ at_1 (shifts n 1) ∙ shifts_shifts 1 n 1
    ∙ (let f : 1 + n ≡ suc n = omega arith in ap (λ t. shifts t 1) f)

-- the inverse of a byte that is not 0
unfoldable pub field_inverse : ℕ → ℕ
field_inverse a = shifts (255 - log a) 1

pub whole_turn : shifts 255 1 ≡ 1
unfolding register_steps
whole_turn = refl

pub inverse_fits : (a : ℕ) → field_inverse a < 2 ^ 8
unfolding field_inverse
inverse_fits a = shifts_fit (255 - log a) 1 fits1

pub product_inverse : (a : ℕ) → a < 2 ^ 8 → (a ≡ 0 → ⊥) → field_product a (field_inverse a) ≡ 1
unfolding field_inverse
product_inverse a h na =
    let l = log_is a h na in
    let le : log a < 255 = l.1 in
    let f : shifts (255 - log a) 1 < 2 ^ 8 = shifts_fit (255 - log a) 1 fits1 in
    let e : log a + (255 - log a) ≡ 255 = omega arith in
    is_times a (shifts (255 - log a) 1)
    ∙ ap₂ (λ x y. times x y) (mod-eq_of_lt h ∙ sym (l.0)) (mod-eq_of_lt f)
    ∙ times_powers (log a) (255 - log a) ∙ ap (λ n. shifts n 1) e ∙ whole_turn

pub no_zero_divisors : (a b : ℕ) → a < 2 ^ 8 → b < 2 ^ 8 → field_product a b ≡ 0 → (b ≡ 0 → ⊥) → a ≡ 0
no_zero_divisors a b ha hb e nb =
    sym (product_one_right a ha)
    ∙ ap (λ t. field_product a t) (sym (product_inverse b hb nb))
    ∙ sym (product_assoc a b (field_inverse b))
    ∙ ap (λ t. field_product t (field_inverse b)) e
    ∙ product_zero_left (field_inverse b)

-- the powers 0 to 254 of 2 differ
log_of_power_test : agree_below (λ n. true) (λ n. log (shifts n 1) == n) 255 ≡ true
unfolding register_steps log logs
log_of_power_test = refl

log_of_power : (n : ℕ) → n < 255 → log (shifts n 1) ≡ n
log_of_power n h = eqb-true (log (shifts n 1)) n (sym (agree_below_at (λ n. true) (λ n. log (shifts n 1) == n) 255 n log_of_power_test h))

pub powers_differ : (n m : ℕ) → n < 255 → m < 255 → field_power 2 n ≡ field_power 2 m → n ≡ m
powers_differ n m hn hm e =
    sym (log_of_power n hn) ∙ ap log (sym (power_two n) ∙ e ∙ power_two m) ∙ log_of_power m hm

-- each byte but 0 is one of them
pub powers_are_all : (a : ℕ) → a < 2 ^ 8 → (a ≡ 0 → ⊥) → (n : ℕ) × (n < 255) × (field_power 2 n ≡ a)
powers_are_all a h na = let l = log_is a h na in (log a, l.1, power_two (log a) ∙ l.0)

pub power_fits : (z n : ℕ) → field_power z n < 2 ^ 8
power_fits z zero = subst (λ t. t < 2 ^ 8) (sym (power_none z)) fits1
power_fits z (suc n) = subst (λ t. t < 2 ^ 8) (sym (power_more z n)) (product_fits z (field_power z n))

one_zero : ◌≡◌ {A = ℕ} 1 0 → ⊥
one_zero e = absurd (omega arith)

pub powers_not_zero : (n : ℕ) → field_power 2 n ≡ 0 → ⊥
powers_not_zero zero e = one_zero (sym (power_none 2) ∙ e)
powers_not_zero (suc n) e =
    let two : ◌≡◌ {A = ℕ} 2 0 = no_zero_divisors 2 (field_power 2 n) (lit< tt) (power_fits 2 n) (sym (power_more 2 n) ∙ e) (powers_not_zero n) in
    absurd (omega arith)

-- a factor by its two halves, four bits each
pub product_halves : (c s : ℕ) → field_product c s ≡ bit_xor (field_product c (s / 16 * 16)) (field_product c (s % 16))
product_halves c s =
    let low : s % 16 < 2 ^ 4 = omega arith in
    let parts : s / 16 * 16 + s % 16 ≡ s = omega arith in
    ap (λ t. field_product c t) (sym parts ∙ sym (xor_shifted (s / 16) 4 (s % 16) low)) ∙ product_sum_right c (s / 16 * 16) (s % 16)
