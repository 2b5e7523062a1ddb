use Rattle.std.proofs.Common.{arith, ℕ, List, inl, inr, ◌≡◌, ◌%◌, ◌/◌, ◌+◌, ◌*◌, ◌∙◌, subst}
use Rattle.std.proofs.lemmas.Bool.{cases_lt}
use Rattle.fec_spec.specs.Field.{field_power}
use Rattle.rs_erasure.specs.Columns.{cell}
use Rattle.gf256.specs.Horner.{horner_value}
use Rattle.rs_erasure.proofs.table_syndromes.find_all_classes.Goals as goal

pub loop-h-preserved : goal.loop-h-preserved
loop-h-preserved c = λ k b i low part lb li.
    let run = c.args.run in
    let h : ℕ = c.loop-h.h in
    let table : List ℕ = c.args.table.now in
    let new : List ℕ = c.find_some_classes.new.classes in
    elim (cases_lt (k % 3) h) [
      | inl before ↦ c.find_some_classes.ensures.other k b i (λ e. absurd (omega arith)) lb (omega arith) ∙ c.loop-h.invariant k b i low before lb li
      | inr behind ↦
          let e : k / 3 * 3 + h ≡ k = omega arith in
          subst (λ (j : ℕ). cell 256 new (j * 17 + b) i ≡ horner_value (field_power 2 (17 * j)) (λ q. cell run.rows table (b + q * 17) (run.from + i)) 15) e
          (c.find_some_classes.ensures.here (k / 3) b i (omega arith) lb li)
    ]
