use Rattle.std.proofs.Common.{◌≡◌, ℕ, ◌+◌, ◌-◌, ◌*◌, ◌∷◌, [], ◌++◌, eqb, List, length, take, drop, slice_index, ap, ap₂, sym, ◌∙◌, arith}
use Rattle.std.proofs.lemmas.List.{length-append}
use Rattle.section_spec.specs.Mpe.{FecFields, fec_bytes}
use Rattle.unit_stream.specs.Packers.{units_of}
use Rattle.fec_units.specs.declared.packets.NextSection.{NextSection}
use Rattle.fec_units.specs.Packets.{after_section}
use Rattle.fec_units.specs.Parts.{column_fields}
use Rattle.fec_units.specs.Timed.{before_column, delta_at}
use Rattle.fec_units.proofs.Timed.{column_after, column_size, timed_column_more, width}
use Rattle.fec_units.proofs.Written.{fields_are, front_unit}
use Rattle.fec_units.proofs.burst_sections.put_burst_columns.Goals as goal

pub loop-number-preserved : goal.loop-number-preserved
loop-number-preserved c =
    let rows : ℕ = c.args.rows in
    let k : ℕ = c.loop-number.number in
    let columns : ℕ = c.args.columns in
    let start : ℕ = c.from.result * rows in
    let parity : List ℕ = c.args.parity.now in
    let fields : FecFields = record {
      padding = c.args.padding;
      number = k;
      last = columns - 1;
      real_time = record { delta = c.delta_of.result; table_boundary = eqb (k + 1) columns; frame_boundary = eqb (k + 1) columns; address = start };
      column = take (start + rows - start) (drop start parity);
    } in
    let delta : c.delta_of.result ≡ delta_at c.args.deltas.now (before_column c.args.next rows k) =
    c.delta_of.ensures.read ∙ ap (λ (x : NextSection). slice_index c.args.deltas.now x.packet) c.loop-number.invariant.next in
    let fields_is : fields ≡ column_fields rows columns c.args.padding parity (delta_at c.args.deltas.now (before_column c.args.next rows k)) k =
    fields_are rows columns c.args.padding parity c.delta_of.result k start (ap (λ (n : ℕ). n * rows) c.from.ensures)
    ∙ ap (λ (x : ℕ). column_fields rows columns c.args.padding parity x k) delta in
    let taken : take c.write_fec-size.result c.write_fec-size.new.into ≡ fec_bytes fields =
    front_unit (fec_bytes fields) (drop c.write_fec-size.result c.loop-number.work) c.write_fec-size.new.into c.write_fec-size.result c.write_fec-size.ensures.written c.write_fec-size.ensures.size in
    let size : c.write_fec-size.result ≡ rows + 16 =
    c.write_fec-size.ensures.size ∙ ap (λ (f : FecFields). length (fec_bytes f)) fields_is
    ∙ column_size (column_fields rows columns c.args.padding parity (delta_at c.args.deltas.now (before_column c.args.next rows k)) k)
    ∙ ap (λ (n : ℕ). n + 16) (width rows k parity (omega (arith, c.loop-number-test.true, c.requires.columns)) c.requires.parity) in
    let more : (k + 1) * (rows + 16) ≡ k * (rows + 16) + (rows + 16) = omega arith in
    record {
      units =
          timed_column_more rows columns c.args.padding parity c.args.deltas.now c.args.next k (units_of c.args.units.now.bytes c.args.units.now.ends)
          (units_of c.loop-number.units.bytes c.loop-number.units.ends) (units_of c.push.new.self.bytes c.push.new.self.ends) fields c.loop-number.invariant.units
          (c.push.ensures.written ∙ ap (λ (u : List ℕ). units_of c.loop-number.units.bytes c.loop-number.units.ends ++ u ∷ []) taken) fields_is;
      next =
          c.after-next.ensures.after ∙ ap₂ after_section c.loop-number.invariant.next size ∙ sym (column_after c.args.next rows k);
      few = omega (arith, c.after-next.ensures.most, c.loop-number.invariant.few);
      bytes = omega (
        arith,
        ap (λ (l : List ℕ). length l) c.push.ensures.bytes,
        length-append c.loop-number.units.bytes (take c.write_fec-size.result c.write_fec-size.new.into),
        ap (λ (l : List ℕ). length l) taken,
        sym c.write_fec-size.ensures.size ∙ size,
        c.loop-number.invariant.bytes,
        more,
      );
      ends = omega (arith, c.push.ensures.units, c.loop-number.invariant.ends);
      bytes_most = c.push.ensures.bytes_most ∙ c.loop-number.invariant.bytes_most;
      units_most = c.push.ensures.units_most ∙ c.loop-number.invariant.units_most;
      held = c.push.ensures.held;
      work = c.write_fec-size.auto.into ∙ c.loop-number.invariant.work;
    }
