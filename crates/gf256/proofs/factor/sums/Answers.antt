use Rattle.std.proofs.Common.{arith, ◌∙◌, ℕ, refl, bit_xor, slice_index}
use Rattle.std.proofs.lemmas.List.{length-set}
use Rattle.gf256.proofs.Places.{place_filled}
use Rattle.gf256.proofs.factor.sums.Goals as goal

pub loop-i-preserved : goal.loop-i-preserved
loop-i-preserved c =
    let i : ℕ = c.loop-i.i in
    record {
      long = length-set c.loop-i.table i _ ∙ c.loop-i.invariant.long;
      each = place_filled (λ k. bit_xor (slice_index c.args.one.now k) (slice_index c.args.other.now k)) i c.loop-i.table _ (omega arith) refl c.loop-i.invariant.each;
    }
