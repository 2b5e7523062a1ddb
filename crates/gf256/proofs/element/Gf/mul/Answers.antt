use Rattle.std.proofs.Common.{arith, ℕ, List, [], ◌<◌, ◌∙◌, ap₂, bit_xor, get_or}
use Rattle.gf256.specs.declared.halves.TheConstants.{HIGH_HIGH, HIGH_LOW, LOW_LOW}
use Rattle.gf256.proofs.ByHalves.{product_of_halves}
use Rattle.gf256.proofs.element.Gf.mul.Goals as goal

pub returns : goal.returns
returns c =
    let a : ℕ = c.args.self.0 in
    let b : ℕ = c.args.other.0 in
    let fits_a : a < 256 = omega arith in
    let fits_b : b < 256 = omega arith in
    let part : List (List ℕ) → ℕ → ℕ → ℕ = λ (table : List (List ℕ)) x y. get_or (get_or table x []) y 0 in
    ap₂ bit_xor
    (ap₂ bit_xor (ap₂ (part HIGH_HIGH) c.from-high.ensures c.from-by_high.ensures) (ap₂ (part HIGH_LOW) c.from-low.ensures c.from-by_high.ensures))
    (ap₂ bit_xor (ap₂ (part HIGH_LOW) c.from-high.ensures c.from-by_low.ensures) (ap₂ (part LOW_LOW) c.from-low.ensures c.from-by_low.ensures))
    ∙ product_of_halves a b fits_a fits_b
