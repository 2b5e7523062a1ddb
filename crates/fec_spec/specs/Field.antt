-- The field of 256 elements (EN 301 192 clause 9): bytes as polynomials over bits, the highest bit the coefficient of x^7.
use Rattle.std.specs.Prelude.{ℕ, zero, suc, bit_xor}
use Rattle.wire_spec.specs.BitPolynomials.{bits, number_of, polynomial_product, remainder}

-- the sum of two bytes, bit by bit (EN 301 192 clause 9)
abbrev pub field_sum : ℕ → ℕ → ℕ
field_sum a b = bit_xor a b

-- the product of two bytes: that of their polynomials, modulo x^8+x^4+x^3+x^2+1 (EN 301 192 clause 9)
unfoldable pub field_product : ℕ → ℕ → ℕ
field_product a b = number_of (remainder (bits 9 0x11D) (polynomial_product (bits 8 a) (bits 8 b)))

-- the product of n times z
unfoldable pub field_power : ℕ → ℕ → ℕ
field_power z zero = 1
field_power z (suc n) = field_product z (field_power z n)
