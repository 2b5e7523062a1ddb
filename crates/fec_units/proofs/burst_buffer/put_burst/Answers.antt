use Rattle.std.proofs.Common.{ℕ, ◌-◌, ◌≤◌, List, length, ap, sym, ◌∙◌, subst, arith}
use Rattle.unit_stream.specs.Packers.{units_of}
use Rattle.fec_frame_spec.specs.Frame.{data_table}
use Rattle.fec_frame_spec.specs.Sender.{padding_of}
use Rattle.fec_sent_law.proofs.Sent.{padding_most}
use Rattle.fec_sent_law.proofs.Tables.{length-parity_table}
use Rattle.fec_units.specs.Parts.{part_of}
use Rattle.fec_units.proofs.Parts.{length-part, part_some, rows_within}
use Rattle.fec_units.proofs.Shortest.{part_bytes}
use Rattle.fec_units.proofs.Timed.{burst_written}
use Rattle.fec_units.proofs.burst_buffer.put_burst.Goals as goal

pub padding_of-padding-requires-clause-some : goal.padding_of-padding-requires-clause-some
padding_of-padding-requires-clause-some c =
    omega (arith, c.data_bytes.ensures.sum, part_some c.args.from c.args.end c.args.list.now c.requires.datagrams c.requires.from c.requires.end)

pub put_burst_columns-requires-clause-few : goal.put_burst_columns-requires-clause-few
put_burst_columns-requires-clause-few c =
    omega (
      arith,
      c.put_burst_data-next.ensures.few,
      part_bytes c.args.from c.args.end c.args.list.now c.requires.datagrams (omega (arith, c.requires.from)) c.requires.end,
      c.requires.fits,
      (rows_within c.args.shape.rows c.requires.rows).1,
    )

pub put_burst_columns-requires-clause-parity : goal.put_burst_columns-requires-clause-parity
put_burst_columns-requires-clause-parity c =
    ap (λ (l : List ℕ). length l) c.encode_frame-parity.ensures.written
    ∙ length-parity_table c.from-rows.result (data_table c.from-rows.result (part_of c.args.from c.args.end c.args.list.now))

pub put_burst_columns-requires-clause-padding : goal.put_burst_columns-requires-clause-padding
put_burst_columns-requires-clause-padding c =
    let some = part_some c.args.from c.args.end c.args.list.now c.requires.datagrams c.requires.from c.requires.end in
    subst (λ (n : ℕ). n ≤ 190) (sym c.padding_of-padding.ensures)
    (padding_most c.args.shape.rows c.data_bytes.result (omega (arith, (rows_within c.args.shape.rows c.requires.rows).0)) (omega (arith, c.data_bytes.ensures.sum, some)))

pub returns-clause-written : goal.returns-clause-written
returns-clause-written c =
    let ds : List (List ℕ) = part_of c.args.from c.args.end c.args.list.now in
    burst_written c.args.shape.rows c.from-rows.result c.args.shape.columns c.args.shape.unicast c.args.deltas.now ds (c.args.end - c.args.from) c.padding_of-padding.result
    c.encode_frame-parity.result.now c.put_burst_data-next.result (units_of c.args.units.now.bytes c.args.units.now.ends)
    (units_of c.put_burst_data-next.new.units.bytes c.put_burst_data-next.new.units.ends) (units_of c.put_burst_columns.new.units.bytes c.put_burst_columns.new.units.ends)
    c.requires.columns c.from-rows.ensures (length-part c.args.from c.args.end c.args.list.now (omega (arith, c.requires.from)) c.requires.end)
    (c.padding_of-padding.ensures ∙ ap (λ (n : ℕ). padding_of c.args.shape.rows n) c.data_bytes.ensures.sum)
    c.encode_frame-parity.ensures.written c.put_burst_data-next.ensures.next c.put_burst_data-next.ensures.written c.put_burst_columns.ensures.written
