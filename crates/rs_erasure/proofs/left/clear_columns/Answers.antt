use Rattle.std.proofs.Common.{arith, ℕ, inl, inr, ◌≡◌, ◌∙◌, ap}
use Rattle.std.proofs.lemmas.Bool.{cases_lt}
use Rattle.rs_erasure.specs.Columns.{cell}
use Rattle.rs_erasure.proofs.left.clear_columns.Goals as goal

pub loop-column-preserved : goal.loop-column-preserved
loop-column-preserved c = λ r ge lt j from low. elim (cases_lt j c.loop-column.column) [
  | inl before ↦ c.clear_column.ensures.elsewhere j r (omega arith) (λ e g l. absurd (omega arith)) ∙ c.loop-column.invariant r ge lt j from before
  | inr behind ↦
      let e : j ≡ c.loop-column.column = omega arith in
      ap (λ (k : ℕ). cell c.args.run.rows c.clear_column.new.buffer k r) e ∙ c.clear_column.ensures.here r ge lt
]
