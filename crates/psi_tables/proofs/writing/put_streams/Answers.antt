use Rattle.std.proofs.Common.{◌+◌, List, drop, arith, ◌∙◌}
use Rattle.std.specs.Prelude.{flat_map}
use Rattle.int_table.proofs.Puts.{leaves_less, leaves_none}
use Rattle.psi_spec.specs.Pmt.{StreamFields, stream_bytes}
use Rattle.psi_tables.specs.Views.{stream_seen}
use Rattle.psi_tables.proofs.Writes.{bytes_from, none_from}
use Rattle.psi_tables.proofs.writing.put_streams.Goals as goal

pub loop-place-preserved : goal.loop-place-preserved
loop-place-preserved c =
    let streams : List StreamFields = c.args.pmt.now.streams in
    record {
      left = leaves_less c.args.into.now c.loop-place.into c.put_stream-end.new.into c.args.at c.loop-place.end c.put_stream-end.result
          (flat_map stream_bytes streams) (stream_bytes (stream_seen c.at.result.now)) (flat_map stream_bytes (drop c.loop-place.place streams))
          (flat_map stream_bytes (drop (c.loop-place.place + 1) streams)) c.loop-place.invariant.left
          (bytes_from stream_bytes streams c.loop-place.place (stream_seen c.at.result.now) c.at.ensures) c.put_stream-end.ensures.put;
      most = omega (arith, c.put_stream-end.ensures.most, c.loop-place.invariant.most);
      same = c.put_stream-end.ensures.same ∙ c.loop-place.invariant.same;
    }

pub returns-clause-put : goal.returns-clause-put
returns-clause-put c =
    let streams : List StreamFields = c.args.pmt.now.streams in
    leaves_none c.args.into.now c.loop-place.into c.args.at c.loop-place.end (flat_map stream_bytes streams) (flat_map stream_bytes (drop c.loop-place.place streams))
    c.loop-place.invariant.left (none_from stream_bytes streams c.loop-place.place (omega (arith, c.loop-place-test.false, c.len-place-end.ensures)))
