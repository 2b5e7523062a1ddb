use Rattle.std.proofs.Common.{arith, ℕ, inl, inr, ◌+◌, ◌*◌, ◌∙◌}
use Rattle.std.proofs.lemmas.Bool.{cases_lt}
use Rattle.rs_erasure.proofs.Changes.{cell_is}
use Rattle.rs_erasure.proofs.left.has_bytes.Goals as goal

pub loop-from-preserved : goal.loop-from-preserved
loop-from-preserved c =
    let rows : ℕ = c.args.run.rows in
    record {
      order = omega arith;
      within = omega arith;
      none = λ r ge lt. elim (cases_lt r c.loop-from.from) [
        | inl before ↦ c.loop-from.invariant.none r ge before
        | inr behind ↦ cell_is rows c.args.table.now c.args.column r ∙ c.any_bits.ensures c.if-any_bits-ne0.false (c.args.column * rows + r) (omega arith) (omega arith)
      ];
    }
