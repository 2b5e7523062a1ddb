use Rattle.std.proofs.Common.{arith, ℕ, List, inl, inr, ◌≡◌, ◌∙◌, ap, sym, length, length-set, get_or, set}
use Rattle.std.proofs.lemmas.Bool.{cases_eq}
use Rattle.std.proofs.lemmas.List.{get_or-set_other, get_or-set_same}
use Rattle.rs_erasure.specs.Columns.{cell}
use Rattle.rs_erasure.proofs.Remains.{marked_one}
use Rattle.rs_erasure.proofs.left.columns_with_bytes.Goals as goal

pub loop-column-init : goal.loop-column-init
loop-column-init c = record {
  long = c.cleared-marks.ensures.long;
  empty = λ j low none. inl (marked_one 1 j c.args.places.now low (λ e. omega (arith, e)) (sym (c.cleared-marks.ensures.bytes j low) ∙ none));
}

pub loop-column-preserved : goal.loop-column-preserved
loop-column-preserved c =
    let run = c.args.run in
    let n : ℕ = c.loop-column.column in
    let marks : List ℕ = c.loop-column.marks in
    let v : ℕ = c.mark_of.result in
    let long : length marks ≡ 255 = c.loop-column.invariant.long in
    record {
      long = length-set marks n v ∙ long;
      empty = λ j low none. elim (cases_eq j n) [
        | inl e ↦
            let here : get_or (set marks n v) j 0 ≡ v = ap (λ (k : ℕ). get_or (set marks n v) k 0) e ∙ get_or-set_same marks n v 0 (omega arith) in
            elim (c.mark_of.ensures (sym here ∙ none)) [
              | inl before ↦ c.loop-column.invariant.empty j low (ap (λ (k : ℕ). get_or marks k 0) e ∙ before)
              | inr zeros ↦ inr (λ r ge lt. ap (λ (k : ℕ). cell run.rows c.args.table.now k r) e ∙ zeros r ge lt)
            ]
        | inr ne ↦ c.loop-column.invariant.empty j low (sym (get_or-set_other marks n j v 0 ne) ∙ none)
      ];
    }
