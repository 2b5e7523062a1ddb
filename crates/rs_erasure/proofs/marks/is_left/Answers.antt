use Rattle.std.proofs.Common.{arith, ℕ, inl, inr, ◌≡◌, ◌∙◌, ap, sym}
use Rattle.std.proofs.lemmas.Bool.{cases_lt}
use Rattle.rs_erasure.specs.Columns.{cell}
use Rattle.rs_erasure.proofs.Changes.{cell_is}
use Rattle.rs_erasure.proofs.marks.is_left.Goals as goal

pub returns-then-work-column-ne0-clause-yes : goal.returns-then-work-column-ne0-clause-yes
returns-then-work-column-ne0-clause-yes c =
    let j : ℕ = c.loop-column.column in
    λ t. (j, omega arith, omega arith, λ e. c.if-work-column-ne0.true (sym (cell_is c.args.rows c.args.work.now j c.args.row) ∙ e))

pub loop-column-preserved : goal.loop-column-preserved
loop-column-preserved c =
    let n : ℕ = c.loop-column.column in
    λ j ge lt. elim (cases_lt j n) [
      | inl low ↦ c.loop-column.invariant j ge low
      | inr high ↦
          let e : j ≡ n = omega arith in
          ap (λ k. cell c.args.rows c.args.work.now k c.args.row) e ∙ cell_is c.args.rows c.args.work.now n c.args.row ∙ c.if-work-column-ne0.false
    ]
