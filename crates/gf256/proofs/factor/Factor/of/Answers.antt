use Rattle.std.proofs.Common.{arith, ℕ, [], ◌<◌, ◌∙◌, ap₂, bit_xor, get_or}
use Rattle.gf256.specs.declared.halves.TheConstants.{HIGH_HIGH, HIGH_LOW, LOW_LOW}
use Rattle.gf256.proofs.ByHalves.{high_is, low_is}
use Rattle.gf256.proofs.factor.Factor.of.Goals as goal

pub invariant_of-result : goal.invariant_of-result
invariant_of-result c =
    let v : ℕ = c.args.value.0 in
    let fits : v < 256 = omega arith in
    record {
      low_products = λ i low.
          c.sums-low.ensures i low
          ∙ ap₂ (λ (h : ℕ) (l : ℕ). bit_xor (get_or (get_or HIGH_LOW h []) i 0) (get_or (get_or LOW_LOW l []) i 0)) c.from-high_half.ensures c.from-low_half.ensures
          ∙ low_is v i fits low;
      high_products = λ i low.
          c.sums-high.ensures i low
          ∙ ap₂ (λ (h : ℕ) (l : ℕ). bit_xor (get_or (get_or HIGH_HIGH h []) i 0) (get_or (get_or HIGH_LOW l []) i 0)) c.from-high_half.ensures c.from-low_half.ensures
          ∙ high_is v i fits low;
    }
