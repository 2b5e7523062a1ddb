use Rattle.std.proofs.Common.{arith, ℕ, List, ◌≡◌, ◌+◌, ◌-◌, ◌*◌, ◌∙◌, ap, ap₂, subst}
use Rattle.fec_spec.specs.Field.{field_power}
use Rattle.gf256.specs.Horner.{horner_value}
use Rattle.rs_erasure.specs.Columns.{IsColumnChanged, cell}
use Rattle.rs_erasure.proofs.Horner.{horner_same}
use Rattle.rs_erasure.proofs.Runs.{changed_to}
use Rattle.rs_erasure.proofs.table_syndromes.find_value.Goals as goal

pub returns : goal.returns
returns c =
    let r = c.args.run in
    let block = c.block_of-block.result in
    let z : ℕ = c.power-root.result.0 in
    let m : ℕ = c.args.m in
    let classes : List ℕ = c.args.classes.now in
    let found : ℕ → ℕ = λ i. horner_value z (λ b. cell block.rows classes (c.args.first + b * 1) (block.from + (i - r.from))) 17 in
    let wanted : ℕ → ℕ = λ i. horner_value (field_power 2 m) (λ b. cell 256 classes (c.args.first + b) (i - r.from)) 17 in
    let old : List ℕ = c.args.work.now in
    let new : List ℕ = c.find_values.new.work in
    changed_to r.rows r.from r.to m found wanted old new
    (λ i ge lt.
    let e : block.from + (i - r.from) ≡ i - r.from = omega (arith, c.block_of-block.ensures.from) in
    horner_same z (λ b. cell block.rows classes (c.args.first + b * 1) (block.from + (i - r.from))) (λ b. cell 256 classes (c.args.first + b) (i - r.from)) 17
    (λ b low.
    let h : c.args.first + b * 1 ≡ c.args.first + b = omega arith in
    ap₂ (λ (rows : ℕ) (j : ℕ). cell rows classes j (block.from + (i - r.from))) c.block_of-block.ensures.rows h ∙ ap (λ k. cell 256 classes (c.args.first + b) k) e)
    ∙ ap (λ y. horner_value y (λ b. cell 256 classes (c.args.first + b) (i - r.from)) 17) (c.power-root.ensures ∙ ap (field_power 2) c.from.ensures))
    (subst (λ j. IsColumnChanged r.rows r.from r.to j found old new) c.from-into.ensures c.find_values.ensures)
