-- real_time_parameters and the number that their four bytes are.
use Rattle.std.proofs.Common.{◌≡◌, ℕ, ◌+◌, ◌*◌, ◌/◌, ◌%◌, ◌^◌, ◌<◌, ◌≤◌, Bool, true, false, inl, inr, ap, ◌∙◌, arith, eq-eqb}
use Rattle.std.specs.Prelude.{◌==◌}
use Rattle.std.proofs.lemmas.Bool.{ne_eqb}
use Rattle.section_spec.specs.Mpe.{RealTimeFields, IsRealTime, IsRows, bit_value, real_time_number, real_time_of}

-- the number of parts of 12, 1, 1 and 18 bits
abbrev number : ℕ → Bool → Bool → ℕ → ℕ
number d t f a = d * 2 ^ 20 + bit_value t 19 + bit_value f 18 + a

number_below : (d a : ℕ) (t f : Bool) → d < 2 ^ 12 → a < 2 ^ 18 → number d t f a < 2 ^ 32
number_below d a true true h k = omega arith
number_below d a true false h k = omega arith
number_below d a false true h k = omega arith
number_below d a false false h k = omega arith

delta_of : (d a : ℕ) (t f : Bool) → a < 2 ^ 18 → number d t f a / 2 ^ 20 ≡ d
delta_of d a true true k = omega arith
delta_of d a true false k = omega arith
delta_of d a false true k = omega arith
delta_of d a false false k = omega arith

table_of : (d a : ℕ) (t f : Bool) → a < 2 ^ 18 → (number d t f a / 2 ^ 19 % 2 == 1) ≡ t
table_of d a true true k = eq-eqb (number d true true a / 2 ^ 19 % 2) 1 (omega arith)
table_of d a true false k = eq-eqb (number d true false a / 2 ^ 19 % 2) 1 (omega arith)
table_of d a false true k = ne_eqb (number d false true a / 2 ^ 19 % 2) 1 (λ e. omega (arith, e))
table_of d a false false k = ne_eqb (number d false false a / 2 ^ 19 % 2) 1 (λ e. omega (arith, e))

frame_of : (d a : ℕ) (t f : Bool) → a < 2 ^ 18 → (number d t f a / 2 ^ 18 % 2 == 1) ≡ f
frame_of d a true true k = eq-eqb (number d true true a / 2 ^ 18 % 2) 1 (omega arith)
frame_of d a false true k = eq-eqb (number d false true a / 2 ^ 18 % 2) 1 (omega arith)
frame_of d a true false k = ne_eqb (number d true false a / 2 ^ 18 % 2) 1 (λ e. omega (arith, e))
frame_of d a false false k = ne_eqb (number d false false a / 2 ^ 18 % 2) 1 (λ e. omega (arith, e))

address_of : (d a : ℕ) (t f : Bool) → a < 2 ^ 18 → number d t f a % 2 ^ 18 ≡ a
address_of d a true true k = omega arith
address_of d a true false k = omega arith
address_of d a false true k = omega arith
address_of d a false false k = omega arith

pub real_time_number_below : (t : RealTimeFields) → IsRealTime t → real_time_number t < 2 ^ 32
real_time_number_below t it = number_below t.delta t.address t.table_boundary t.frame_boundary it.delta_below it.address_below

-- the number reads as the parameters that it was made of
pub real_time_of-real_time_number : (t : RealTimeFields) → IsRealTime t → real_time_of (real_time_number t) ≡ t
real_time_of-real_time_number t it = λ i. record {
  delta = delta_of t.delta t.address t.table_boundary t.frame_boundary it.address_below i;
  table_boundary = table_of t.delta t.address t.table_boundary t.frame_boundary it.address_below i;
  frame_boundary = frame_of t.delta t.address t.table_boundary t.frame_boundary it.address_below i;
  address = address_of t.delta t.address t.table_boundary t.frame_boundary it.address_below i;
}

-- a number below 2 ^ 32 in its four bytes
pub four_bytes : (n : ℕ) → n < 2 ^ 32 → (n / 16777216 % 256 * 256 + n / 65536 % 256) * 65536 + (n / 256 % 256 * 256 + n % 256) ≡ n
four_bytes n below = omega arith

-- a column's address has 18 bits
pub address_below : (n rows address : ℕ) → n ≤ 63 → IsRows rows → address ≡ n * rows → address < 2 ^ 18
address_below n rows address most (inl e) is = omega (arith, is ∙ ap (λ k. n * k) e)
address_below n rows address most (inr (inl e)) is = omega (arith, is ∙ ap (λ k. n * k) e)
address_below n rows address most (inr (inr (inl e))) is = omega (arith, is ∙ ap (λ k. n * k) e)
address_below n rows address most (inr (inr (inr e))) is = omega (arith, is ∙ ap (λ k. n * k) e)

pub rows_most : (rows : ℕ) → IsRows rows → rows ≤ 1024
rows_most rows (inl e) = omega (arith, e)
rows_most rows (inr (inl e)) = omega (arith, e)
rows_most rows (inr (inr (inl e))) = omega (arith, e)
rows_most rows (inr (inr (inr e))) = omega (arith, e)
