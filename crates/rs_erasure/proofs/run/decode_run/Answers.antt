use Rattle.std.proofs.Common.{arith, ℕ, List, [], ◌≡◌, sym, subst, drop}
use Rattle.std.proofs.lemmas.List.{drop_all}
use Rattle.fec_spec.specs.Table.{table_row}
use Rattle.erasure_law.proofs.Tables.{length-table_row}
use Rattle.rs_erasure.specs.Syndromes.{HasLeft}
use Rattle.rs_erasure.proofs.Decoding.{corrected_all}
use Rattle.rs_erasure.proofs.run.decode_run.Goals as goal

pub decode_run_with_syndromes-requires-clause-syndromes : goal.decode_run_with_syndromes-requires-clause-syndromes
decode_run_with_syndromes-requires-clause-syndromes c = λ r ge lt.
    let none : drop c.len.result c.args.unknown.now.items ≡ [] = drop_all c.len.result c.args.unknown.now.items (omega (arith, c.len.ensures.value)) in
    subst (λ (l : List ℕ). HasLeft c.args.rows l c.args.table.now c.find_run_syndromes.new.work r) (sym none) (c.find_run_syndromes.ensures.found r ge lt)

pub returns-clause-corrected : goal.returns-clause-corrected
returns-clause-corrected c = λ r ge lt.
    let none : drop c.len.result c.args.unknown.now.items ≡ [] = drop_all c.len.result c.args.unknown.now.items (omega (arith, c.len.ensures.value)) in
    corrected_all (drop c.len.result c.args.unknown.now.items) c.args.unknown.now.items (table_row 255 c.args.rows c.args.table.now r) (table_row 255 c.args.rows c.decode_run_with_syndromes.new.table r)
    none (length-table_row 255 c.args.rows c.decode_run_with_syndromes.new.table r) (c.decode_run_with_syndromes.ensures.corrected r ge lt)
