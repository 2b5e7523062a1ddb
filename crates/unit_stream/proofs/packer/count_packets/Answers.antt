use Rattle.std.proofs.Common.{[], length, ap, arith}
use Rattle.unit_stream.specs.Packing.{pieces, byte_count}
use Rattle.unit_stream.specs.Packers.{units_of}
use Rattle.unit_stream.proofs.Between.{below_last}
use Rattle.unit_stream.proofs.Written.{length-numbered, left_at_first}
use Rattle.unit_stream.proofs.packer.count_packets.Goals as goal

pub loop-part-smaller : goal.loop-part-smaller
loop-part-smaller g c =
    omega (arith, below_last g.F.UnitForm.START c.args.ends.now c.in-Some.part.begun c.requires c.in-Some.ensures.part.count, c.in-Some.ensures.part.from, c.in-Some.ensures.part.to)

pub loop-part-preserved : goal.loop-part-preserved
loop-part-preserved g c = record {
  begun = c.in-Some.ensures.part.count;
  at = c.in-Some.ensures.part.to;
  count = omega (arith, c.in-Some.ensures.part.from, c.loop-part.invariant.count);
  rest = λ bytes within. omega (arith, c.loop-part.invariant.rest bytes within, ap length (c.in-Some.ensures.next bytes within));
}

pub returns : goal.returns
returns g c = record {
  counted = λ bytes pid counter within.
      omega (
        arith,
        c.loop-part.invariant.rest bytes within,
        ap length (c.in_default.ensures.next bytes within),
        ap length (left_at_first g.F.UnitForm.form.start c.args.packing bytes c.args.ends.now),
        length-numbered pid counter (pieces (byte_count (units_of bytes c.args.ends.now)) g.F.UnitForm.form.start c.args.packing [] (units_of bytes c.args.ends.now)),
      );
}
