use Rattle.std.proofs.Common.{arith, ◌≡◌, ◌∙◌, ℕ, inl, inr, ap, get_or}
use Rattle.std.proofs.lemmas.Bool.{cases_lt}
use Rattle.std.proofs.lemmas.Nat.{le_or_l, le_or_r}
use Rattle.rs_erasure.proofs.left.any_bits.Goals as goal

pub loop-i-preserved : goal.loop-i-preserved
loop-i-preserved c = λ none place ge lt.
    let byte : ℕ = get_or c.args.bytes.now c.loop-i.i 0 in
    let bits : c.loop-i.bits ≡ 0 = omega (arith, none, le_or_l c.loop-i.bits byte) in
    let zero : byte ≡ 0 = omega (arith, none, le_or_r c.loop-i.bits byte) in
    elim (cases_lt place c.loop-i.i) [
      | inl before ↦ c.loop-i.invariant bits place ge before
      | inr behind ↦
          let e : place ≡ c.loop-i.i = omega arith in
          ap (λ (k : ℕ). get_or c.args.bytes.now k 0) e ∙ zero
    ]
