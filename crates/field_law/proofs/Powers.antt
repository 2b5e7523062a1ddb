-- Powers of any element: sums and products of exponents, the inverse, one step of squaring.
use Rattle.std.proofs.Common.{ℕ, zero, suc, ◌≡◌, ◌+◌, ◌*◌, ◌/◌, ◌%◌, ◌^◌, ◌<◌, ◌==◌, ap, sym, ◌∙◌, arith, lit<, mul_comm, Bool, inl, inr}
use Rattle.std.specs.Prelude.{if◌then◌else◌}
use Rattle.std.proofs.lemmas.Bool.{cases_eq, eq-eqb, ne_eqb}
use Rattle.fec_spec.specs.Field.{field_product, field_power}
use Rattle.field_law.proofs.Field.{power_none, power_more, power_fits, power_two, product_assoc, product_one_left, product_one_right, log_is, whole_turn}
use Rattle.field_law.proofs.Products.{log}

pub power-add : (z a b : ℕ) → field_power z (a + b) ≡ field_product (field_power z a) (field_power z b)
power-add z zero b =
    let e : 0 + b ≡ b = omega arith in
    ap (λ t. field_power z t) e ∙ sym (product_one_left (field_power z b) (power_fits z b)) ∙ ap (λ t. field_product t (field_power z b)) (sym (power_none z))
power-add z (suc a) b =
    let e : suc a + b ≡ suc (a + b) = omega arith in
    ap (λ t. field_power z t) e ∙ power_more z (a + b) ∙ ap (λ t. field_product z t) (power-add z a b)
    ∙ sym (product_assoc z (field_power z a) (field_power z b)) ∙ ap (λ t. field_product t (field_power z b)) (sym (power_more z a))

pub power-power : (z m k : ℕ) → field_power (field_power z m) k ≡ field_power z (m * k)
power-power z m zero = let e : m * 0 ≡ 0 = omega arith in power_none (field_power z m) ∙ sym (power_none z) ∙ ap (λ t. field_power z t) (sym e)
power-power z m (suc k) =
    let e : m + m * k ≡ m * suc k = omega arith in
    power_more (field_power z m) k ∙ ap (λ t. field_product (field_power z m) t) (power-power z m k) ∙ sym (power-add z m (m * k)) ∙ ap (λ t. field_power z t) e

pub power_swap : (z m k : ℕ) → field_power (field_power z m) k ≡ field_power (field_power z k) m
power_swap z m k = power-power z m k ∙ ap (λ t. field_power z t) (mul_comm m k) ∙ sym (power-power z k m)

power_one : (n : ℕ) → field_power 1 n ≡ 1
power_one zero = power_none 1
power_one (suc n) = power_more 1 n ∙ ap (λ t. field_product 1 t) (power_one n) ∙ product_one_left 1 (lit< tt)

pub power_255 : (a : ℕ) → a < 2 ^ 8 → (a ≡ 0 → ⊥) → field_power a 255 ≡ 1
power_255 a h na =
    let l = log_is a h na in
    ap (λ t. field_power t 255) (sym (power_two (log a) ∙ l.0)) ∙ power_swap 2 (log a) 255
    ∙ ap (λ t. field_power t (log a)) (power_two 255 ∙ whole_turn) ∙ power_one (log a)

pub power_254 : (a : ℕ) → a < 2 ^ 8 → (a ≡ 0 → ⊥) → field_product a (field_power a 254) ≡ 1
power_254 a h na = sym (power_more a 254) ∙ power_255 a h na

pub power_square : (b q : ℕ) → b < 2 ^ 8 → field_power (field_product b b) q ≡ field_power b (2 * q)
power_square b q h =
    let two : field_power b 2 ≡ field_product b b =
    power_more b 1 ∙ ap (λ t. field_product b t) (power_more b 0 ∙ ap (λ t. field_product b t) (power_none b) ∙ product_one_right b h) in
    ap (λ t. field_power t q) (sym two) ∙ power-power b 2 q

-- one step of the squaring
pub power_step : (d b r : ℕ) → b < 2 ^ 8 → field_product (if r % 2 == 1 then field_product d b else d) (field_power (field_product b b) (r / 2)) ≡ field_product d (field_power b r)
power_step d b r h =
    let q : ℕ = r / 2 in
    ap (λ t. field_product (if r % 2 == 1 then field_product d b else d) t) (power_square b q h)
    ∙ (elim (cases_eq (r % 2) 1) [
      | inl e ↦
          let odd : suc (2 * q) ≡ r = omega arith in
          ap (λ (t : Bool). field_product (if t then field_product d b else d) (field_power b (2 * q))) (eq-eqb (r % 2) 1 e)
          ∙ product_assoc d b (field_power b (2 * q)) ∙ ap (λ t. field_product d t) (sym (power_more b (2 * q)) ∙ ap (λ n. field_power b n) odd)
      | inr ne ↦
          let even : 2 * q ≡ r = omega arith in
          ap (λ (t : Bool). field_product (if t then field_product d b else d) (field_power b (2 * q))) (ne_eqb (r % 2) 1 ne)
          ∙ ap (λ n. field_product d (field_power b n)) even
    ])
