use Rattle.std.proofs.Common.{arith, ℕ, List, ◌≡◌, ◌+◌, ◌-◌, ◌*◌, ap₂}
use Rattle.gf256.specs.Horner.{horner_value}
use Rattle.rs_erasure.specs.Columns.{cell}
use Rattle.rs_erasure.proofs.Runs.{changed_run, changed_to}
use Rattle.rs_erasure.proofs.table_syndromes.find_class.Goals as goal

pub returns : goal.returns
returns c =
    let r = c.args.run in
    let block = c.block_of-block.result in
    let width : ℕ = r.to - r.from in
    let at : ℕ → ℕ → ℕ = λ rows k. horner_value c.args.root.0 (λ a. cell rows c.args.thirds.now (c.args.b + a * 17) k) 5 in
    let old : List ℕ = c.args.classes.now in
    let new : List ℕ = c.find_values.new.work in
    changed_to 256 0 width c.args.into (λ i. at block.rows (block.from + (i - block.from))) (λ i. at 256 i) old new
    (λ i ge lt. let e : block.from + (i - block.from) ≡ i = omega (arith, c.block_of-block.ensures.from) in ap₂ at c.block_of-block.ensures.rows e)
    (changed_run block.rows 256 block.from 0 block.to width c.args.into (λ i. at block.rows (block.from + (i - block.from))) old new
    c.block_of-block.ensures.rows c.block_of-block.ensures.from c.block_of-block.ensures.to c.find_values.ensures)
