use Rattle.std.proofs.Common.{arith, ℕ, List, ◌≡◌, ◌+◌, ◌-◌, ◌*◌, ap}
use Rattle.gf256.specs.Horner.{horner_value}
use Rattle.rs_erasure.specs.Columns.{cell}
use Rattle.rs_erasure.proofs.Runs.{changed_run, changed_to}
use Rattle.rs_erasure.proofs.table_syndromes.find_third.Goals as goal

pub returns : goal.returns
returns c =
    let r = c.args.run in
    let block = c.block_of-block.result in
    let width : ℕ = r.to - r.from in
    let at : ℕ → ℕ = λ k. horner_value c.args.root.0 (λ t. cell r.rows c.args.table.now (c.args.e + t * 85) k) 3 in
    let old : List ℕ = c.args.thirds.now in
    let new : List ℕ = c.find_values.new.work in
    changed_to 256 0 width c.args.e (λ i. at (r.from + (i - block.from))) (λ i. at (r.from + i)) old new
    (λ i ge lt. let e : r.from + (i - block.from) ≡ r.from + i = omega (arith, c.block_of-block.ensures.from) in ap at e)
    (changed_run block.rows 256 block.from 0 block.to width c.args.e (λ i. at (r.from + (i - block.from))) old new
    c.block_of-block.ensures.rows c.block_of-block.ensures.from c.block_of-block.ensures.to c.find_values.ensures)
