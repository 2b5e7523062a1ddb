use Rattle.std.proofs.Common.{◌≡◌, ℕ, ◌+◌, ◌*◌, ◌<◌, ◌≤◌, List, [], ◌++◌, length, get_or, drop, refl, ap, ap₂, sym, ◌∙◌, subst, arith}
use Rattle.wire_spec.specs.Lists.{joined}
use Rattle.fec_spec.specs.Codeword.{IsCodeword}
use Rattle.fec_spec.specs.Table.{table_row}
use Rattle.fec_frame_spec.specs.Frame.{data_table}
use Rattle.fec_frame_law.proofs.Places.{data_long, datagram_long}
use Rattle.rs_encode.specs.Encoding.{Stands, rows_of}
use Rattle.fec_units.specs.Parts.{padded, part_of}
use Rattle.fec_units.proofs.Filling.{columns_more, left_more}
use Rattle.fec_units.proofs.Padded.{padded_zero, table_is_padded}
use Rattle.fec_sent_law.proofs.Tables.{codewords_tell}
use Rattle.fec_units.proofs.columns.encode_frame.Goals as goal

pub loop-number-init : goal.loop-number-init
loop-number-init c =
    let bytes : List ℕ = joined (part_of c.args.from c.args.end c.args.list.now) in
    let none : 0 ≡ 0 * c.args.rows = omega arith in
    let least : 1 ≤ length (get_or c.args.list.now c.args.from []) =
    datagram_long (get_or c.args.list.now c.args.from []) (c.requires.datagrams c.args.from [] (omega (arith, c.requires.from, c.requires.end))).is in
    record {
      rows = c.over-columns.ensures.rows;
      pushed = c.over-columns.ensures.pushed;
      same_buffer = refl;
      within = record { end_most = c.requires.end; most = omega (arith, c.requires.from); out = λ less. omega (arith, least); none = λ same. refl };
      left = ap (λ (n : ℕ). drop n bytes) none;
      stands = subst (λ (l : List ℕ). Stands c.over-columns.result l) (sym (padded_zero bytes) ∙ ap (λ (n : ℕ). padded n bytes) none) c.over-columns.ensures.stands;
    }

pub loop-number-preserved : goal.loop-number-preserved
loop-number-preserved c =
    let rows : ℕ = c.args.rows in
    let n : ℕ = c.loop-number.number in
    let bytes : List ℕ = joined (part_of c.args.from c.args.end c.args.list.now) in
    let width : length c.loop-number.column ≡ rows = omega (arith, c.loop-number.auto.column, c.requires.column) in
    let column : c.fill_column.new.into ≡ padded rows (drop (n * rows) bytes) =
    c.fill_column.ensures.filled ∙ ap₂ (λ (k : ℕ) (l : List ℕ). padded k l) width c.loop-number.invariant.left in
    record {
      rows = c.push.ensures.rows ∙ c.loop-number.invariant.rows;
      pushed = c.push.ensures.pushed ∙ ap (λ (k : ℕ). k + 1) c.loop-number.invariant.pushed;
      same_buffer = c.push.ensures.same_buffer ∙ c.loop-number.invariant.same_buffer;
      within = c.fill_column.ensures.within;
      left = c.fill_column.ensures.rest ∙ ap₂ (λ (k : ℕ) (l : List ℕ). drop k l) width c.loop-number.invariant.left ∙ left_more rows n bytes;
      stands =
          subst (λ (l : List ℕ). Stands c.push.new.self l) (ap (λ (l : List ℕ). padded (n * rows) bytes ++ l) column ∙ columns_more rows n bytes)
          (c.push.ensures.stands (padded (n * rows) bytes) c.loop-number.invariant.stands);
    }

pub returns : goal.returns
returns c =
    let rows : ℕ = c.args.rows in
    let datagrams : List (List ℕ) = part_of c.args.from c.args.end c.args.list.now in
    let table : List ℕ = data_table rows datagrams in
    let all : c.loop-number.number ≡ 191 = omega (arith, c.loop-number-test.false, c.loop-number.auto.number-end) in
    let given : padded (c.loop-number.number * rows) (joined datagrams) ≡ table =
    ap (λ (n : ℕ). padded (n * rows) (joined datagrams)) all ∙ table_is_padded rows datagrams c.requires.fits in
    let stands : Stands c.loop-number.columns table = subst (λ (l : List ℕ). Stands c.loop-number.columns l) given c.loop-number.invariant.stands in
    let same : rows_of c.loop-number.columns ≡ rows = c.loop-number.invariant.rows in
    record {
      written =
          codewords_tell rows table c.finish.result.now (data_long rows datagrams c.requires.fits)
          (c.finish.ensures.long ∙ ap (λ (k : ℕ). 64 * k) same)
          (λ r low.
          let fits : r < rows_of c.loop-number.columns = omega (arith, low, same) in
          subst (λ (k : ℕ). IsCodeword (table_row 255 k (table ++ c.finish.result.now) r)) same (c.finish.ensures.written table stands r fits));
    }
