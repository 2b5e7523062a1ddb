-- The upper and the lower bits of a number.
use Rattle.std.proofs.Common.{◌≡◌, ℕ, ◌+◌, ◌-◌, ◌*◌, ◌^◌, ◌<◌, ◌∙◌, arith, ap}
use Rattle.std.specs.Prelude.{bit_and}
use Rattle.std.proofs.lemmas.Nat.{and_block, and_mask, and_le_r, mod_low, pow_pos}

-- a mask of upper bits does not see the k bits below
pub upper_bits : (k a b x : ℕ) → x < 2 ^ k → bit_and (a * 2 ^ k + x) (b * 2 ^ k) ≡ bit_and a b * 2 ^ k
upper_bits k a b x below =
    let as_block : bit_and (a * 2 ^ k + x) (b * 2 ^ k + 0) ≡ bit_and a b * 2 ^ k + bit_and x 0 = and_block k a b x 0 below (pow_pos k) in
    ap (λ m. bit_and (a * 2 ^ k + x) m) (omega arith) ∙ as_block ∙ omega (arith, and_le_r x 0)

-- the k lower bits
pub lower_bits : (k a x : ℕ) → x < 2 ^ k → bit_and (a * 2 ^ k + x) (2 ^ k - 1) ≡ x
lower_bits k a x below = and_mask (a * 2 ^ k + x) k ∙ mod_low a k x below
