use Rattle.std.proofs.Common.{arith, ℕ, List, inl, inr, ◌≡◌, ◌≤◌, ◌+◌, ◌*◌, ◌∙◌, ap, slice_set}
use Rattle.std.proofs.lemmas.Bool.{cases_lt}
use Rattle.rs_erasure.specs.Columns.{cell}
use Rattle.rs_erasure.proofs.Changes.{cell_set_same, cell_set_other, column_below}
use Rattle.rs_erasure.proofs.marks.clear_row.Goals as goal

pub loop-column-preserved : goal.loop-column-preserved
loop-column-preserved c =
    let n : ℕ = c.loop-column.column in
    let rows : ℕ = c.args.rows in
    let row : ℕ = c.args.row in
    let work : List ℕ = c.loop-column.work in
    let ends : n * rows + rows ≤ 64 * rows = column_below n 64 rows rows (omega arith) (omega arith) in
    record {
      here = λ j lt. elim (cases_lt j n) [
        | inl low ↦ cell_set_other rows work n row 0 j row c.requires.within c.requires.within (λ e. let same : j ≡ n = e.0 in absurd (omega arith)) ∙ c.loop-column.invariant.here j low
        | inr high ↦
            let e : j ≡ n = omega arith in
            ap (λ k. cell rows (slice_set work (n * rows + row) 0) k row) e ∙ cell_set_same rows work n row 0 (omega arith)
      ];
      elsewhere = λ j r low ne. cell_set_other rows work n row 0 j r low c.requires.within (λ e. ne (e.1)) ∙ c.loop-column.invariant.elsewhere j r low ne;
    }
