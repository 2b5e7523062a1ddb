use Rattle.std.proofs.Common.{arith, ◌*◌, ◌+◌, ◌-◌, ◌++◌, ◌<◌, ◌≤◌, ◌≡◌, ℕ, List, length, take, drop, ap, sym, ◌∙◌, subst}
use Rattle.std.proofs.Math.Seq.{take-add}
use Rattle.std.proofs.Math.Nat.{add-mul}
use Rattle.std.proofs.lemmas.List.{take_all}
use Rattle.fec_spec.specs.Codeword.{IsCodeword}
use Rattle.fec_spec.specs.Table.{table_row}
use Rattle.rs_encode.specs.Encoding.{Stands, rows_of}
use Rattle.fec_tests.proofs.frame_encoding.encode_frame.Goals as goal

pub loop-column-preserved : goal.loop-column-preserved
loop-column-preserved c =
    let rows : ℕ = c.args.rows in
    let n : ℕ = c.loop-column.column in
    let table : List ℕ = c.args.table.now in
    let start : ℕ = n * rows in
    let width : start + rows - start ≡ rows = omega arith in
    let next : start + rows ≡ (n + 1) * rows = omega (arith, add-mul n 1 rows) in
    let longer : take start table ++ take (start + rows - start) (drop start table) ≡ take ((n + 1) * rows) table =
    ap (λ w. take start table ++ take w (drop start table)) width ∙ sym (take-add start rows table) ∙ ap (λ k. take k table) next in
    record {
      rows = c.push.ensures.rows ∙ c.loop-column.invariant.rows;
      pushed = c.push.ensures.pushed ∙ ap (λ k. k + 1) c.loop-column.invariant.pushed;
      same_buffer = c.push.ensures.same_buffer ∙ c.loop-column.invariant.same_buffer;
      stands = subst (λ l. Stands c.push.new.self l) longer (c.push.ensures.stands (take start table) c.loop-column.invariant.stands);
    }

pub returns-clause-written : goal.returns-clause-written
returns-clause-written c = λ r low.
    let rows : ℕ = c.args.rows in
    let table : List ℕ = c.args.table.now in
    let n : ℕ = c.loop-column.column in
    let all : n ≡ 191 = omega arith in
    let le : length table ≤ n * rows = omega (arith, ap (λ k. k * rows) all) in
    let stands : Stands c.loop-column.columns table = subst (λ l. Stands c.loop-column.columns l) (take_all (n * rows) table le) c.loop-column.invariant.stands in
    let same : rows_of c.loop-column.columns ≡ rows = c.loop-column.invariant.rows in
    let fits : r < rows_of c.loop-column.columns = omega arith in
    subst (λ k. IsCodeword (table_row 255 k (table ++ c.finish.result.now) r)) same (c.finish.ensures.written table stands r fits)
