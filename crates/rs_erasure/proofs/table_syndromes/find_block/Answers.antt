use Rattle.std.proofs.Common.{arith, ℕ, List, ◌≡◌, ◌+◌, ◌-◌, ◌*◌, ◌%◌, ◌<◌, ◌≤◌, ◌∙◌, inl, inr, ap, subst}
use Rattle.std.proofs.lemmas.Bool.{cases_lt}
use Rattle.fec_spec.specs.Field.{field_power}
use Rattle.fec_spec.specs.Table.{table_row}
use Rattle.erasure_law.specs.Roots.{syndromes_of}
use Rattle.rs_erasure.specs.Columns.{cell}
use Rattle.gf256.specs.Horner.{horner_value}
use Rattle.rs_erasure.proofs.Changes.{column_outside}
use Rattle.rs_erasure.proofs.Horner.{value_of_classes}
use Rattle.rs_erasure.proofs.table_syndromes.find_block.Goals as goal

pub loop-m-preserved : goal.loop-m-preserved
loop-m-preserved c =
    let r = c.args.run in
    let m : ℕ = c.loop-m.m in
    let table : List ℕ = c.args.table.now in
    let classes : List ℕ = c.find_all_classes.new.classes in
    let new : List ℕ = c.find_value.new.work in
    let first : ℕ = c.from.result in
    let here : (i : ℕ) → r.from ≤ i → i < r.to → cell r.rows new m i ≡ syndromes_of (table_row 255 r.rows table i) m = λ i ge lt.
    let e : r.from + (i - r.from) ≡ i = omega arith in
    c.find_value.ensures.here i ge lt
    ∙ value_of_classes r.rows table i m (λ b. cell 256 classes (first * 17 + b) (i - r.from)) (λ k. omega (arith, c.type_inv.table k))
    (λ b low.
    ap (λ k. cell 256 classes (k * 17 + b) (i - r.from)) c.from.ensures
    ∙ c.find_all_classes.ensures (m % 15) b (i - r.from) (omega arith) low (omega arith)
    ∙ ap (λ k. horner_value (field_power 2 (17 * (m % 15))) (λ q. cell r.rows table (b + q * 17) k) 15) e) in
    record {
      found = λ i ge lt k low. elim (cases_lt k m) [
        | inl before ↦ c.find_value.ensures.elsewhere k i (omega (arith, lt, c.args.run.within)) (λ e g l. omega (arith, e, before)) ∙ c.loop-m.invariant.found i ge lt k before
        | inr behind ↦
            let e : m ≡ k = omega (arith, low, behind) in
            subst (λ n. cell r.rows new n i ≡ syndromes_of (table_row 255 r.rows table i) n) e (here i ge lt)
      ];
      outside = λ j i low out. column_outside r.rows r.from r.to m _ c.loop-m.work new c.find_value.ensures j i low out ∙ c.loop-m.invariant.outside j i low out;
    }
