use Rattle.std.proofs.Common.{ℕ, List, arith, ◌∙◌}
use Rattle.plan.specs.Parts.{kind_seen}
use Rattle.stream_spec.specs.Units.{unit_of}
use Rattle.ts_mux.proofs.Held.{end_next}
use Rattle.ts_mux.proofs.units.ends_of.Goals as goal

pub loop-place-preserved : goal.loop-place-preserved
loop-place-preserved c =
    let unit : List ℕ → List ℕ = unit_of (kind_seen c.args.service.now.kind) c.args.service.now.unicast in
    let next = end_next unit c.args.datagrams.now c.loop-place.place c.at.result.now c.loop-place.end c.unit_size-end.result c.loop-place.ends.items c.at.ensures.read
    c.loop-place.invariant.ends c.loop-place.invariant.end c.unit_size-end.ensures.size in
    record {
      ends = c.push_reserved.ensures.items ∙ next.0;
      end = next.1;
      most = omega (arith, c.loop-place.invariant.most, c.unit_size-end.ensures.most);
      size = omega (arith, c.loop-place.invariant.size, c.push_reserved.ensures.len);
      room = c.push_reserved.ensures.capacity ∙ c.loop-place.invariant.room;
    }
