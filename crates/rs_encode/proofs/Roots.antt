-- The generator's roots.
use Rattle.std.proofs.Common.{ℕ, suc, List, [], ◌∷◌, ◌++◌, ◌≡◌, ◌^◌, ◌<◌, ◌==◌, refl, ap, sym, ◌∙◌, arith, bit_xor, lit<, true, Bool, ltb, ◌&&◌}
use Rattle.std.specs.List.{All}
use Rattle.std.proofs.lemmas.Bool.{agree_below, agree_below_at, eqb-true, ltb-true, and_parts}
use Rattle.std.proofs.lemmas.List.{append_assoc, append-nil}
use Rattle.std.proofs.lemmas.List.Elements.{All-cons}
use Rattle.fec_spec.specs.Field.{field_power}
use Rattle.fec_spec.specs.Codeword.{row_value}
use Rattle.division_law.specs.Registers.{register_steps}
use Rattle.field_law.proofs.Shifts.{by_shifts, product_is, shifts}
use Rattle.field_law.proofs.Products.{shifts_fit}
use Rattle.field_law.proofs.Field.{power_two}
use Rattle.erasure_law.proofs.Sums.{row_value_none}
use Rattle.erasure_law.proofs.Rows.{row_value_push}
use Rattle.rs_encode.specs.declared.generator.TheConstants.{GENERATOR}

-- Horner's rule, by shifts
abbrev pub horner : ℕ → ℕ → List ℕ → ℕ
horner z value [] = value
horner z value (c ∷ row) = horner z (bit_xor (by_shifts 8 value z) c) row

-- it gives the value of the row
horner_is : (z : ℕ) (front row : List ℕ) → z < 2 ^ 8 → All (λ b. b < 2 ^ 8) row → horner z (row_value z front) row ≡ row_value z (front ++ row)
horner_is z front [] h all = ap (λ l. row_value z l) (sym (append-nil front))
horner_is z front (c ∷ row) h all =
    let fits : c < 2 ^ 8 = all 0 0 (omega arith) in
    ap (λ v. horner z v row) (ap (λ t. bit_xor t c) (sym (product_is (row_value z front) z h)) ∙ sym (row_value_push z c front fits))
    ∙ horner_is z (front ++ c ∷ []) row h (λ k d lt. all (suc k) d (omega arith))
    ∙ ap (λ l. row_value z l) (append_assoc front (c ∷ []) row)

-- all are below n
abbrev pub all_below : ℕ → List ℕ → Bool
all_below n [] = true
all_below n (x ∷ xs) = ltb x n && all_below n xs

all_below_is : (n : ℕ) (xs : List ℕ) → all_below n xs ≡ true → All (λ b. b < n) xs
all_below_is n [] h = λ k d lt. absurd (omega arith)
all_below_is n (x ∷ xs) h =
    let p = and_parts (ltb x n) (all_below n xs) h in
    All-cons (λ b. b < n) x xs (ltb-true x n (p.0)) (all_below_is n xs (p.1))

-- one computation: 64 values
roots_test : agree_below (λ m. true) (λ m. horner (shifts m 1) 0 (1 ∷ GENERATOR) == 0) 64 ≡ true
unfolding by_shifts register_steps
roots_test = refl

small_test : all_below 256 (1 ∷ GENERATOR) ≡ true
small_test = refl

-- the powers 0 to 63 of 2 are roots of the generator
pub generator_root : (m : ℕ) → m < 64 → row_value (field_power 2 m) (1 ∷ GENERATOR) ≡ 0
generator_root m h =
    let z : ℕ = shifts m 1 in
    ap (λ t. row_value t (1 ∷ GENERATOR)) (power_two m)
    ∙ sym (horner_is z [] (1 ∷ GENERATOR) (shifts_fit m 1 (lit< tt)) (all_below_is 256 (1 ∷ GENERATOR) small_test))
    ∙ ap (λ v. horner z v (1 ∷ GENERATOR)) (row_value_none z)
    ∙ eqb-true (horner z 0 (1 ∷ GENERATOR)) 0 (sym (agree_below_at (λ m. true) (λ m. horner (shifts m 1) 0 (1 ∷ GENERATOR) == 0) 64 m roots_test h))
