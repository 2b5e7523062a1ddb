use Rattle.std.proofs.Common.{◌≡◌, inr, ◌-◌, ◌<◌, ◌∙◌, ℕ, List, drop, length, length-drop, ap, sym, subst, arith}
use Rattle.std.specs.Prelude.{count_by}
use Rattle.std.specs.List.{range_with_len, All}
use Rattle.std.specs.List.Sorted.{IsStrictlyIncreasing}
use Rattle.fec_spec.specs.Row.{is_among}
use Rattle.rs_erasure.specs.Syndromes.{HasLeft}
use Rattle.fec_frame.specs.Runs.{is_good, unmarked}
use Rattle.fec_frame.proofs.Patterns.{low_behind, unmarked_low, unmarked_rise}
use Rattle.fec_frame.proofs.RunsSolved.{none_lacked, too_many, decoded}
use Rattle.fec_frame.proofs.solving.solve_run.Goals as goal

pub returns-then-not-lacks_data-clause-solved : goal.returns-then-not-lacks_data-clause-solved
returns-then-not-lacks_data-clause-solved c =
    none_lacked c.args.rows c.args.bytes.now c.args.marks.now c.args.from c.args.to (omega (arith, c.requires.order)) c.requires.within c.requires.pattern
    (c.lacks_data.ensures.no c.if-not-lacks_data.true)

pub returns-then-len-gt64-clause-solved : goal.returns-then-len-gt64-clause-solved
returns-then-len-gt64-clause-solved c =
    let same : length c.unknown_in-unknown.result.items ≡ length (unmarked c.args.rows c.args.marks.now c.args.from 255) = ap (λ (l : List ℕ). length l) c.unknown_in-unknown.ensures.items in
    too_many c.args.rows c.args.bytes.now c.args.marks.now c.args.from c.args.to (omega (arith, c.requires.order)) c.requires.within c.requires.pattern
    (c.lacks_data.ensures.yes c.if-not-lacks_data.false) (omega (arith, c.if-len-gt64.true, c.len.ensures.value, same)) (c.args.to - c.args.from) (omega (arith, c.requires.order))

pub decode_run_with_syndromes-requires-clause-rising : goal.decode_run_with_syndromes-requires-clause-rising
decode_run_with_syndromes-requires-clause-rising c =
    subst (λ (l : List ℕ). IsStrictlyIncreasing l) (sym c.unknown_in-unknown.ensures.items) (unmarked_rise c.args.rows c.args.marks.now c.args.from)

pub decode_run_with_syndromes-requires-clause-low : goal.decode_run_with_syndromes-requires-clause-low
decode_run_with_syndromes-requires-clause-low c =
    subst (λ (l : List ℕ). All (λ (p : ℕ). p < 255) l) (sym c.unknown_in-unknown.ensures.items) (unmarked_low c.args.rows c.args.marks.now c.args.from)

pub returns-clause-solved : goal.returns-clause-solved
returns-clause-solved c =
    let same : c.as_slice-columns.result.now ≡ c.unknown_in-unknown.result.items = c.as_slice-columns.ensures.value in
    decoded c.args.rows c.args.bytes.now c.args.marks.now c.args.from c.args.to (omega (arith, c.requires.order)) c.requires.within c.requires.pattern
    (c.lacks_data.ensures.yes c.if-not-lacks_data.false) c.decode_run_with_syndromes.new.table c.mark_rows.new.marks c.decode_run_with_syndromes.new.bad c.unknown_in-unknown.result.items
    (drop c.data_columns-wanted.result c.unknown_in-unknown.result.items)
    c.unknown_in-unknown.ensures.items
    (λ j low. ap (λ (l : List ℕ). is_among j (drop c.data_columns-wanted.result l)) (sym same) ∙ c.data_columns-wanted.ensures.others j low)
    c.decode_run_with_syndromes.auto.table c.decode_run_with_syndromes.ensures.corrected c.decode_run_with_syndromes.ensures.consistent c.decode_run_with_syndromes.ensures.outside
    c.mark_rows.ensures.marked c.count_good-mended.result (c.args.to - c.args.from - c.count_good-mended.result)
    (λ k is.
    let e : c.args.to - c.args.from ≡ k = omega (arith, is) in
    c.count_good-mended.ensures.count ∙ ap (λ (n : ℕ). count_by (is_good c.decode_run_with_syndromes.new.bad) (range_with_len c.args.from n)) e)
    (omega (arith, c.count_good-mended.ensures.few, c.requires.order))

pub find_left-requires-clause-low : goal.find_left-requires-clause-low
find_left-requires-clause-low c =
    let same : c.as_slice-columns.result.now ≡ unmarked c.args.rows c.args.marks.now c.args.from 255 = c.as_slice-columns.ensures.value ∙ c.unknown_in-unknown.ensures.items in
    subst (λ (l : List ℕ). All (λ (p : ℕ). p < 255) l) (sym (c.others_of-others.ensures ∙ ap (λ (l : List ℕ). drop c.data_columns-wanted.result l) same))
    (low_behind 255 c.data_columns-wanted.result (unmarked c.args.rows c.args.marks.now c.args.from 255) (unmarked_low c.args.rows c.args.marks.now c.args.from))

pub find_left-requires-clause-few : goal.find_left-requires-clause-few
find_left-requires-clause-few c =
    let same : c.others_of-others.result.now ≡ drop c.data_columns-wanted.result c.unknown_in-unknown.result.items =
    c.others_of-others.ensures ∙ ap (λ (l : List ℕ). drop c.data_columns-wanted.result l) c.as_slice-columns.ensures.value in
    omega (arith, ap (λ (l : List ℕ). length l) same, length-drop c.data_columns-wanted.result c.unknown_in-unknown.result.items, c.if-len-gt64.false, c.len.ensures.value)

pub decode_run_with_syndromes-requires-clause-syndromes : goal.decode_run_with_syndromes-requires-clause-syndromes
decode_run_with_syndromes-requires-clause-syndromes c = λ r ge lt.
    subst (λ (l : List ℕ). HasLeft c.args.rows l c.args.bytes.now c.find_left.new.work r)
    (c.others_of-others.ensures ∙ ap (λ (l : List ℕ). drop c.data_columns-wanted.result l) c.as_slice-columns.ensures.value)
    (c.find_left.ensures.syndromes r ge (omega (arith, lt, c.find_left.ensures.least)))

pub returns-clause-syndromes : goal.returns-clause-syndromes
returns-clause-syndromes c = λ r ge lt.
    c.decode_run_with_syndromes.ensures.syndromes c.find_left.new.left.others.items r (omega (arith, lt, c.find_left.ensures.most)) (inr ge)
    (subst (λ (l : List ℕ). HasLeft c.args.rows l c.args.bytes.now c.find_left.new.work r) (sym c.find_left.ensures.same) (c.find_left.ensures.syndromes r (omega (arith, ge, c.requires.order)) lt))
