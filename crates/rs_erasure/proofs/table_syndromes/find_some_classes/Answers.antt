use Rattle.std.proofs.Common.{arith, ℕ, List, inl, inr, ◌≡◌, ◌+◌, ◌*◌, ◌∙◌, subst}
use Rattle.std.proofs.lemmas.Bool.{cases_lt}
use Rattle.fec_spec.specs.Field.{field_power}
use Rattle.rs_erasure.specs.Columns.{cell}
use Rattle.gf256.specs.Horner.{horner_value}
use Rattle.rs_erasure.proofs.Horner.{class_of_thirds}
use Rattle.rs_erasure.proofs.table_syndromes.find_some_classes.Goals as goal

pub loop-n-preserved : goal.loop-n-preserved
loop-n-preserved c =
    let run = c.args.run in
    let h : ℕ = c.args.h in
    let n : ℕ = c.loop-n.n in
    let k : ℕ = n * 3 + h in
    let table : List ℕ = c.args.table.now in
    let thirds : List ℕ = c.find_thirds.new.thirds in
    let new : List ℕ = c.find_classes.new.classes in
    let is = c.loop-n.invariant in
    record {
      here = λ m b i low lb li. elim (cases_lt m n) [
        | inl before ↦ c.find_classes.ensures.other ((m * 3 + h) * 17 + b) i (inl (omega (arith, before, lb))) (omega arith) ∙ is.here m b i before lb li
        | inr behind ↦
            let same : n ≡ m = omega (arith, low, behind) in
            subst (λ (j : ℕ). cell 256 new ((j * 3 + h) * 17 + b) i ≡ horner_value (field_power 2 (17 * (j * 3 + h))) (λ q. cell run.rows table (b + q * 17) (run.from + i)) 15) same
            (c.find_classes.ensures.here b i lb li
            ∙ class_of_thirds run.rows table thirds n h b i (run.from + i) (λ j. omega (arith, c.type_inv.table j))
            (λ a la. c.find_thirds.ensures (b + a * 17) i (omega arith) li))
      ];
      other = λ j b i apart lb li.
          c.find_classes.ensures.other (j * 17 + b) i
          (elim (cases_lt j k) [
            | inl before ↦ inl (omega (arith, before, lb))
            | inr behind ↦ inr (omega (arith, behind, apart))
          ]) li
          ∙ is.other j b i apart lb li;
    }
