-- Values of polynomials, by Horner's rule.
use Rattle.std.specs.Prelude.{ℕ, zero, suc, List, ◌≡◌, ◌+◌, ◌*◌, ◌<◌, slice_index}
use Rattle.fec_spec.specs.Field.{field_sum, field_product}

-- the value at z of so many coefficients, the highest first, by Horner's rule
unfoldable pub horner_value : ℕ → (ℕ → ℕ) → ℕ → ℕ
horner_value z f zero = 0
horner_value z f (suc n) = field_sum (field_product (horner_value z f n) z) (f n)

-- the first n bytes of the target are the values at z of so many columns of a source, the highest coefficients' first:
-- column q begins at first + q × stride
abbrev pub AreValues : ℕ → ℕ → ℕ → ℕ → List ℕ → ℕ → List ℕ → Type 0
AreValues z first stride count source n target =
    (i : ℕ) → i < n → slice_index target i ≡ horner_value z (λ q. slice_index source (first + q * stride + i)) count
