use Rattle.std.proofs.Common.{◌∙◌, List, ◌∷◌, refl, ap, sym, subst, arith, Result, Ok}
use Rattle.gse_spec.specs.Packet.{Reading, packets_of, readings_of}
use Rattle.gse_packet.specs.Views.{packet_in, reading_in}
use Rattle.gse_packet.specs.declared.packet.Gse.{Gse}
use Rattle.gse_packet.specs.declared.packet.GseFault.{GseFault}
use Rattle.gse_reception.proofs.Outlets.{caused_then}
use Rattle.bridge_frame.proofs.Readings.{IsUnderWay, begin_all, packet_more, all_handed}
use Rattle.bridge_frame.proofs.pdus.take_field.Goals as goal

pub loop-reading-init : goal.loop-reading-init
loop-reading-init g c = record {
  services = refl;
  cause = record { later = omega arith; failed = tt; kept = refl };
  way = subst (λ (left : List Reading). IsUnderWay g.T.Outlet.StandsFor g.T.Outlet.Refused g.T.Outlet.services g.T.Outlet.faults (packets_of c.args.field.now) c.args.slots.now
      left c.args.slots.now (record { outlet = c.args.outlet.now; went = Ok tt }) (record { outlet = c.args.outlet.now; went = Ok tt }))
      (sym c.over-reader.ensures.read)
      (begin_all g.T.Outlet.StandsFor g.T.Outlet.Refused g.T.Outlet.services g.T.Outlet.faults (readings_of c.args.field.now) c.args.slots.now c.args.outlet.now (Ok tt));
}

pub loop-reading-preserved-in-Ok : goal.loop-reading-preserved-in-Ok
loop-reading-preserved-in-Ok g c = record {
  services = c.take_packet-went.ensures.hands.goes.services_are ∙ c.loop-reading.invariant.services;
  cause = caused_then g.T.Outlet.StandsFor g.T.Outlet.Refused g.T.Outlet.services g.T.Outlet.faults
      c.args.outlet.now c.loop-reading.outlet c.take_packet-went.new.outlet c.loop-reading.went c.take_packet-went.result
      c.loop-reading.invariant.cause c.take_packet-went.ensures.hands.goes.cause c.take_packet-went.ensures.hands.goes.stays;
  way = packet_more g.T.Outlet.StandsFor g.T.Outlet.Refused g.T.Outlet.services g.T.Outlet.faults (packets_of c.args.field.now) c.args.slots.now
      (record { outlet = c.args.outlet.now; went = Ok tt }) (packet_in c.in-Ok.packet) c.next_reading.new.reader c.loop-reading.slots c.take_packet-went.new.slots
      (record { outlet = c.loop-reading.outlet; went = c.loop-reading.went }) (record { outlet = c.take_packet-went.new.outlet; went = c.take_packet-went.result })
      (subst (λ (left : List Reading). IsUnderWay g.T.Outlet.StandsFor g.T.Outlet.Refused g.T.Outlet.services g.T.Outlet.faults (packets_of c.args.field.now) c.args.slots.now
      left c.loop-reading.slots (record { outlet = c.args.outlet.now; went = Ok tt }) (record { outlet = c.loop-reading.outlet; went = c.loop-reading.went }))
      (c.in-Some.ensures.read ∙ ap (λ (r : Result Gse GseFault). reading_in r ∷ c.next_reading.new.reader) c.in-Ok.is)
      c.loop-reading.invariant.way)
      c.take_packet-went.ensures.takes c.take_packet-went.ensures.frame_number c.take_packet-went.ensures.hands;
}

pub returns-clause-hands : goal.returns-clause-hands
returns-clause-hands g c = λ place before stands.
    all_handed g.T.Outlet.StandsFor g.T.Outlet.Refused g.T.Outlet.services g.T.Outlet.faults (packets_of c.args.field.now) c.args.slots.now
    (record { outlet = c.args.outlet.now; went = Ok tt }) c.loop-reading.slots (record { outlet = c.loop-reading.outlet; went = c.loop-reading.went })
    (subst (λ (left : List Reading). IsUnderWay g.T.Outlet.StandsFor g.T.Outlet.Refused g.T.Outlet.services g.T.Outlet.faults (packets_of c.args.field.now) c.args.slots.now
    left c.loop-reading.slots (record { outlet = c.args.outlet.now; went = Ok tt }) (record { outlet = c.loop-reading.outlet; went = c.loop-reading.went }))
    c.in_default.ensures.read.0 c.loop-reading.invariant.way)
    place before stands
