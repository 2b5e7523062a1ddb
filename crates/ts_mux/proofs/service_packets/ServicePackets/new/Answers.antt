use Rattle.std.proofs.Common.{sym, subst}
use Rattle.plan.specs.Parts.{kind_seen}
use Rattle.fec_units.specs.Bursts.{AreBurstEnds}
use Rattle.ts_mux.specs.ServiceUnits.{AreUnitsFor, AreOfBursts, AreOfFrames}
use Rattle.ts_mux.proofs.Sliced.{rows_of, sliceable_of, ends_of_bursts, begins_of, frame_ends, frames_begin}
use Rattle.ts_mux.proofs.service_packets.ServicePackets.new.Goals as goal

pub new-requires-clause-ends : goal.new-requires-clause-ends
new-requires-clause-ends c =
    let are : AreOfFrames (kind_seen c.args.service.now.kind) c.requires.units.0 c.args.datagrams.now c.in-Frames.units c.in-Frames.first
    = subst (AreUnitsFor (kind_seen c.args.service.now.kind) c.args.service.now.unicast c.requires.units.0 c.args.datagrams.now) c.in-Frames.is c.requires.units.1 in
    frame_ends (kind_seen c.args.service.now.kind) c.requires.units.0 c.args.datagrams.now c.in-Frames.units c.in-Frames.first are c.frames_of-shape.result c.frames_of-shape.ensures.read c.as_slice-ends.result.now c.as_slice-ends.ensures.value

pub new-requires-in-Bursts-clause-rows : goal.new-requires-in-Bursts-clause-rows
new-requires-in-Bursts-clause-rows c = (rows_of (kind_seen c.args.service.now.kind) c.bursts_of.result.0 c.bursts_of.result.1 c.bursts_of.ensures.kind c.requires.frames).0

pub new-requires-in-Bursts-clause-columns : goal.new-requires-in-Bursts-clause-columns
new-requires-in-Bursts-clause-columns c = let it = rows_of (kind_seen c.args.service.now.kind) c.bursts_of.result.0 c.bursts_of.result.1 c.bursts_of.ensures.kind c.requires.frames in (it.1, it.2)

pub new-requires-in-Bursts-clause-sliceable : goal.new-requires-in-Bursts-clause-sliceable
new-requires-in-Bursts-clause-sliceable c =
    sliceable_of (kind_seen c.args.service.now.kind) c.bursts_of.result.0 c.bursts_of.result.1 c.bursts_of.ensures.kind c.args.times c.requires.times c.bursts_of.ensures.timing

pub new-requires-in-Bursts-clause-ends : goal.new-requires-in-Bursts-clause-ends
new-requires-in-Bursts-clause-ends c =
    let are : AreOfBursts (kind_seen c.args.service.now.kind) c.args.datagrams.now c.in-Bursts.ends.items
    = subst (AreUnitsFor (kind_seen c.args.service.now.kind) c.args.service.now.unicast c.requires.units.0 c.args.datagrams.now) c.in-Bursts.is c.requires.units.1 in
    subst (AreBurstEnds (c.bursts_of.result.0).rows (c.bursts_of.result.0).columns (c.bursts_of.result.1).length c.args.datagrams.now) (sym c.deref-in-Bursts.ensures.value)
    (ends_of_bursts (kind_seen c.args.service.now.kind) c.bursts_of.result.0 c.bursts_of.result.1 c.bursts_of.ensures.kind c.args.datagrams.now c.in-Bursts.ends.items are)

pub returns-in_ok-packets-in-Frames : goal.returns-in_ok-packets-in-Frames
returns-in_ok-packets-in-Frames c =
    let are : AreOfFrames (kind_seen c.args.service.now.kind) c.requires.units.0 c.args.datagrams.now c.in-Frames.units c.in-Frames.first
    = subst (AreUnitsFor (kind_seen c.args.service.now.kind) c.args.service.now.unicast c.requires.units.0 c.args.datagrams.now) c.in-Frames.is c.requires.units.1 in
    record {
      begun = frames_begin (kind_seen c.args.service.now.kind) c.requires.units.0 c.args.datagrams.now c.in-Frames.units c.in-Frames.first are c.frames_of-shape.result c.frames_of-shape.ensures.read c.args.service.now.unicast c.frames_of-shape.ensures.unicast
          c.args.pid c.args.counter c.args.units.now c.in-Frames.is c.args.times c.in_ok-packets-in-Frames.packets c.in_ok-packets-in-Frames.ensures.begun;
    }

pub returns-in_ok-packets-in-Bursts : goal.returns-in_ok-packets-in-Bursts
returns-in_ok-packets-in-Bursts c = record {
  begun = begins_of (kind_seen c.args.service.now.kind) c.bursts_of.result.0 c.bursts_of.result.1 c.bursts_of.ensures.kind c.args.times c.bursts_of.ensures.timing c.args.service.now.unicast c.bursts_of.ensures.unicast
      c.args.pid c.args.counter c.args.datagrams.now c.args.units.now c.in_ok-packets-in-Bursts.packets c.in_ok-packets-in-Bursts.ensures.begun;
}
