use Rattle.std.proofs.Common.{arith, ℕ, List, suc, inl, inr, ◌≡◌, ◌<◌, ◌+◌, ◌-◌, ◌∙◌, ap, ap₂, sym, drop, length, get_or, bit_xor, refl}
use Rattle.std.proofs.Math.Seq.{drop-cons}
use Rattle.std.proofs.lemmas.Bool.{cases_lt}
use Rattle.fec_spec.specs.Field.{field_product}
use Rattle.field_law.proofs.Field.{product_assoc}
use Rattle.erasure_law.specs.Roots.{differences}
use Rattle.rs_erasure.specs.Columns.{cell}
use Rattle.rs_erasure.proofs.Changes.{column_outside}
use Rattle.rs_erasure.proofs.correction.spread.Goals as goal

pub loop-into-init : goal.loop-into-init
loop-into-init c = record {
  factor = c.mul-factor.ensures ∙ ap (λ t. field_product t c.args.scale.0) c.differences_of.ensures;
  before = λ r ge lt j from low. absurd (omega arith);
  kept = λ r ge lt j high. refl;
  outside = λ j r low out. refl;
}

pub loop-into-preserved : goal.loop-into-preserved
loop-into-preserved c =
    let run = c.args.run in
    let roots : List ℕ = c.args.roots.now in
    let power : ℕ = c.args.power.0 in
    let scale : ℕ = c.args.scale.0 in
    let n : ℕ = c.loop-into.into in
    let k : ℕ = length roots - 1 - n in
    let now : n < c.args.column = c.loop-into-test.true in
    let lt : k < length roots = omega arith in
    let e1 : length roots - (n + 1) ≡ k = omega arith in
    let e2 : suc k ≡ length roots - n = omega arith in
    let mid : List ℕ = c.loop-into.work in
    let is = c.loop-into.invariant in
    record {
      factor =
          c.mul-factor-in-loop-into.ensures
          ∙ ap₂ (λ s t. field_product s t) c.add.ensures is.factor
          ∙ sym (product_assoc (bit_xor (get_or roots k 0) power) (differences (drop (length roots - n) roots) power) scale)
          ∙ ap (λ m. field_product (field_product (bit_xor (get_or roots k 0) power) (differences (drop m roots) power)) scale) (sym e2)
          ∙ ap (λ (l : List ℕ). field_product (differences l power) scale) (sym (drop-cons roots k 0 lt))
          ∙ ap (λ m. field_product (differences (drop m roots) power) scale) (sym e1);
      before = λ r ge lo j from low. elim (cases_lt j n) [
        | inl before ↦ c.add_to_earlier.ensures.elsewhere j r (omega arith) (λ e g l. absurd (omega arith)) ∙ is.before r ge lo j from before
        | inr behind ↦
            let e : j ≡ n = omega arith in
            ap (λ m. cell run.rows c.add_to_earlier.new.work m r) e
            ∙ c.add_to_earlier.ensures.here r ge lo
            ∙ ap₂ (λ s t. bit_xor s t) (is.kept r ge lo n (omega arith)) (ap₂ (λ s t. field_product s t) is.factor (is.kept r ge lo c.args.column (omega arith)))
            ∙ ap (λ m. bit_xor (cell run.rows c.args.work.now m r) (field_product (field_product (differences (drop (length roots - m) roots) power) scale) (cell run.rows c.args.work.now c.args.column r))) (sym e)
      ];
      kept = λ r ge lo j high. c.add_to_earlier.ensures.elsewhere j r (omega arith) (λ e g l. absurd (omega arith)) ∙ is.kept r ge lo j (omega arith);
      outside = λ j r low out. column_outside run.rows run.from run.to n _ mid c.add_to_earlier.new.work c.add_to_earlier.ensures j r low out ∙ is.outside j r low out;
    }
