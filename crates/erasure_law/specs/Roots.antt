-- Polynomials over the field, as the lists of their coefficients, the constant first.
use Rattle.std.specs.Prelude.{ℕ, List, [], ◌∷◌, ◌-◌, ◌==◌, suc, if◌then◌else◌, map}
use Rattle.fec_spec.specs.Codeword.{row_value}
use Rattle.fec_spec.specs.Field.{field_sum, field_product, field_power}

-- the value of a polynomial at x, from its coefficients, the constant first
abbrev pub polynomial_value : List ℕ → ℕ → ℕ
polynomial_value [] x = 0
polynomial_value (a ∷ p) x = field_sum a (field_product x (polynomial_value p x))

-- the product of a polynomial and x + root, and a constant
abbrev pub times_root : ℕ → ℕ → List ℕ → List ℕ
times_root root constant [] = constant ∷ []
times_root root constant (a ∷ p) = field_sum constant (field_product root a) ∷ times_root root a p

-- the product of x + root over the roots
abbrev pub root_polynomial : List ℕ → List ℕ
root_polynomial [] = 1 ∷ []
root_polynomial (root ∷ roots) = times_root root 0 (root_polynomial roots)

-- the product of the sums of y and the roots
abbrev pub differences : List ℕ → ℕ → ℕ
differences [] y = 1
differences (x ∷ xs) y = field_product (field_sum x y) (differences xs y)

-- each coefficient times the term of its power, added, where the terms begin at m
abbrev pub combined : List ℕ → (ℕ → ℕ) → ℕ → ℕ
combined [] term m = 0
combined (a ∷ p) term m = field_sum (field_product a (term m)) (combined p term (suc m))

-- the powers of places: place j of a codeword has 2 to the power 254 - j (EN 301 192 clause 9)
abbrev pub place_power : ℕ → ℕ
place_power place = field_power 2 (254 - place)

-- the places but one
abbrev pub without : ℕ → List ℕ → List ℕ
without i [] = []
without i (x ∷ xs) = if i == x then without i xs else x ∷ without i xs

-- what is left at m where the places are eliminated from syndromes: the sum of the syndromes from number m on, each times its coefficient of
-- the polynomial whose roots are the powers of the places
abbrev pub eliminated : List ℕ → (ℕ → ℕ) → ℕ → ℕ
eliminated places values m = combined (root_polynomial (map place_power places)) values m

-- the syndromes of a row: number m is its value at the power m of 2
abbrev pub syndromes_of : List ℕ → ℕ → ℕ
syndromes_of row m = row_value (field_power 2 m) row
