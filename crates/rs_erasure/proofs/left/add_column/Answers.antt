use Rattle.std.proofs.Common.{arith, ℕ, List, suc, inl, inr, ◌≡◌, ◌≤◌, ◌+◌, ◌-◌, ◌∙◌, ap, ap₂, sym, length, bit_xor, refl}
use Rattle.std.proofs.lemmas.Bool.{cases_lt}
use Rattle.fec_spec.specs.Field.{field_power, field_product}
use Rattle.field_law.proofs.Field.{power_none, product_one_left}
use Rattle.erasure_law.specs.Roots.{differences, place_power}
use Rattle.erasure_law.proofs.Unique.{differences_fit}
use Rattle.rs_erasure.specs.Columns.{cell}
use Rattle.rs_erasure.proofs.Remains.{factor_more}
use Rattle.rs_erasure.proofs.left.add_column.Goals as goal

pub loop-into-init : goal.loop-into-init
loop-into-init c =
    let roots : List ℕ = c.args.roots.now in
    let x : ℕ = place_power c.args.place in
    let d : ℕ = differences roots x in
    let e : 0 ≡ length roots - length roots = omega arith in
    record {
      above = omega arith;
      factor =
          c.differences_of-factor.ensures ∙ ap (λ (y : ℕ). differences roots y) c.locator_of-power.ensures
          ∙ sym (ap (λ (t : ℕ). field_product t d) (power_none x) ∙ product_one_left d (differences_fit roots x))
          ∙ ap (λ (k : ℕ). field_product (field_power x k) d) e;
      before = λ r ge lt m low. absurd (omega arith);
      kept = λ r ge lt j high. refl;
    }

pub loop-into-preserved : goal.loop-into-preserved
loop-into-preserved c =
    let run = c.args.run in
    let roots : List ℕ = c.args.roots.now in
    let u : ℕ = length roots in
    let x : ℕ = place_power c.args.place in
    let d : ℕ = differences roots x in
    let n : ℕ = c.loop-into.into in
    let is = c.loop-into.invariant in
    let above : u ≤ n = is.above in
    let k : ℕ = n - u in
    let e : suc k ≡ n + 1 - u = omega arith in
    let table : List ℕ = c.args.table.now in
    let term : ℕ → ℕ → ℕ = λ (m r : ℕ). field_product (field_product (field_power x m) d) (cell run.rows table c.args.place r) in
    record {
      above = omega arith;
      factor =
          c.mul-factor.ensures ∙ ap₂ (λ (s t : ℕ). field_product s t) c.locator_of-power.ensures is.factor
          ∙ factor_more x d k ∙ ap (λ (i : ℕ). field_product (field_power x i) d) e;
      before = λ r ge lt m low. elim (cases_lt (u + m) n) [
        | inl before ↦ c.add_to_other.ensures.elsewhere (u + m) r (omega arith) (λ same g l. absurd (omega arith)) ∙ is.before r ge lt m before
        | inr behind ↦
            let at : u + m ≡ n = omega arith in
            let back : k ≡ m = omega arith in
            ap (λ (j : ℕ). cell run.rows c.add_to_other.new.target j r) at
            ∙ c.add_to_other.ensures.here r ge lt
            ∙ ap₂ (λ (s t : ℕ). bit_xor s t) (is.kept r ge lt n (omega arith) ∙ ap (λ (j : ℕ). cell run.rows c.args.work.now j r) (sym at))
            (ap₂ (λ (s t : ℕ). field_product s t) (is.factor ∙ ap (λ (i : ℕ). field_product (field_power x i) d) back) (ap (λ (j : ℕ). cell run.rows table j r) c.from.ensures))
      ];
      kept = λ r ge lt j high. c.add_to_other.ensures.elsewhere j r (omega arith) (λ same g l. absurd (omega arith)) ∙ is.kept r ge lt j (omega arith);
    }
