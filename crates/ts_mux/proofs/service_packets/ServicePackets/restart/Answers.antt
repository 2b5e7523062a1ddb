use Rattle.std.proofs.Common.{sym, subst, ap, ◌∙◌}
use Rattle.plan.specs.Parts.{kind_seen}
use Rattle.fec_units.specs.Bursts.{AreBurstEnds}
use Rattle.ts_mux.specs.ServiceUnits.{AreUnitsFor, AreOfBursts, AreOfFrames, AreSingle}
use Rattle.ts_mux.specs.Services.{shape_in}
use Rattle.ts_mux.proofs.Sliced.{shape_kept, sliceable_of, ends_of_bursts, begins_of, frame_ends, frames_begin, single_begins}
use Rattle.ts_mux.proofs.service_packets.ServicePackets.restart.Goals as goal

pub restart-requires-clause-ends : goal.restart-requires-clause-ends
restart-requires-clause-ends c =
    let are : AreOfFrames (kind_seen c.args.service.now.kind) c.requires.units.0 c.args.datagrams.now c.in-Frames.units c.in-Frames.first
    = subst (AreUnitsFor (kind_seen c.args.service.now.kind) c.args.service.now.unicast c.requires.units.0 c.args.datagrams.now) c.in-Frames.is c.requires.units.1 in
    frame_ends (kind_seen c.args.service.now.kind) c.requires.units.0 c.args.datagrams.now c.in-Frames.units c.in-Frames.first are c.frames_of-shape.result c.frames_of-shape.ensures.read c.as_slice-ends.result.now c.as_slice-ends.ensures.value

pub restart-requires-in-Bursts-clause-kept : goal.restart-requires-in-Bursts-clause-kept
restart-requires-in-Bursts-clause-kept c =
    shape_kept (kind_seen c.args.service.now.kind) c.bursts_of.result.0 c.bursts_of.result.1 c.bursts_of.ensures.kind (c.in-Sliced.packets).rows (c.in-Sliced.packets).columns
    (ap shape_in (sym c.in-Sliced.is) ∙ c.requires.shape)

pub restart-requires-in-Bursts-clause-sliceable : goal.restart-requires-in-Bursts-clause-sliceable
restart-requires-in-Bursts-clause-sliceable c =
    sliceable_of (kind_seen c.args.service.now.kind) c.bursts_of.result.0 c.bursts_of.result.1 c.bursts_of.ensures.kind c.args.times c.requires.times c.bursts_of.ensures.timing

pub restart-requires-in-Bursts-clause-ends : goal.restart-requires-in-Bursts-clause-ends
restart-requires-in-Bursts-clause-ends c =
    let are : AreOfBursts (kind_seen c.args.service.now.kind) c.args.datagrams.now c.in-Bursts.ends.items
    = subst (AreUnitsFor (kind_seen c.args.service.now.kind) c.args.service.now.unicast c.requires.units.0 c.args.datagrams.now) c.in-Bursts.is c.requires.units.1 in
    subst (AreBurstEnds (c.bursts_of.result.0).rows (c.bursts_of.result.0).columns (c.bursts_of.result.1).length c.args.datagrams.now) (sym c.deref-in-Bursts.ensures.value)
    (ends_of_bursts (kind_seen c.args.service.now.kind) c.bursts_of.result.0 c.bursts_of.result.1 c.bursts_of.ensures.kind c.args.datagrams.now c.in-Bursts.ends.items are)

pub returns-in-Ends : goal.returns-in-Ends
returns-in-Ends c =
    let are : AreSingle (kind_seen c.args.service.now.kind) c.args.service.now.unicast c.args.datagrams.now c.in-Ends.ends.items
    = subst (AreUnitsFor (kind_seen c.args.service.now.kind) c.args.service.now.unicast c.requires.units.0 c.args.datagrams.now) c.in-Ends.is c.requires.units.1 in
    record {
      begun = single_begins (kind_seen c.args.service.now.kind) c.args.service.now.unicast c.args.pid c.args.counter c.args.datagrams.now c.args.units.now c.args.times c.packets_of_datagrams.result are.single
          c.packets_of_datagrams.ensures.written c.packets_of_datagrams.ensures.behind c.packets_of_datagrams.ensures.most c.packets_of_datagrams.ensures.bursts c.packets_of_datagrams.ensures.shape;
    }

pub returns-in-Fec : goal.returns-in-Fec
returns-in-Fec c =
    let are : AreOfFrames (kind_seen c.args.service.now.kind) c.requires.units.0 c.args.datagrams.now c.in-Frames.units c.in-Frames.first
    = subst (AreUnitsFor (kind_seen c.args.service.now.kind) c.args.service.now.unicast c.requires.units.0 c.args.datagrams.now) c.in-Frames.is c.requires.units.1 in
    record {
      begun = frames_begin (kind_seen c.args.service.now.kind) c.requires.units.0 c.args.datagrams.now c.in-Frames.units c.in-Frames.first are c.frames_of-shape.result c.frames_of-shape.ensures.read c.args.service.now.unicast c.frames_of-shape.ensures.unicast
          c.args.pid c.args.counter c.args.units.now c.in-Frames.is c.args.times c.restart.new.self c.restart.ensures.begun;
    }

pub returns-in-Sliced : goal.returns-in-Sliced
returns-in-Sliced c = record {
  begun = begins_of (kind_seen c.args.service.now.kind) c.bursts_of.result.0 c.bursts_of.result.1 c.bursts_of.ensures.kind c.args.times c.bursts_of.ensures.timing c.args.service.now.unicast c.bursts_of.ensures.unicast
      c.args.pid c.args.counter c.args.datagrams.now c.args.units.now c.restart-in-Bursts.new.self c.restart-in-Bursts.ensures.begun;
}
