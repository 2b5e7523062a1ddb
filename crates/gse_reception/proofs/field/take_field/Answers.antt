use Rattle.std.proofs.Common.{◌≡◌, ◌∙◌, List, ◌∷◌, refl, ap, sym, subst, arith, Result, Ok}
use Rattle.gse_spec.specs.Packet.{GsePacket, Reading, packet, readings_of}
use Rattle.gse_packet.specs.Views.{packet_in, refusal_in, reading_in}
use Rattle.gse_packet.specs.declared.packet.Gse.{Gse}
use Rattle.gse_packet.specs.declared.packet.GseFault.{GseFault}
use Rattle.gse_packet.specs.declared.packet.GseFault.TheVariants as fault
use Rattle.gse_reception.specs.Counting.{of_isi, of_pdus}
use Rattle.gse_reception.proofs.Outlets.{caused_then}
use Rattle.gse_reception.proofs.UnderWay.{IsUnderWay, AreUnderWay, begin_all, packet_more, refusal_more, all_handed}
use Rattle.gse_reception.proofs.field.take_field.Goals as goal

no_packet : (f : GseFault) (p : GsePacket) → refusal_in f ≡ packet p → ⊥
no_packet fault.Cut p same = absurd (cc)
no_packet fault.ReuseFirst p same = absurd (cc)
no_packet fault.Short p same = absurd (cc)

pub loop-reading-init : goal.loop-reading-init
loop-reading-init g c = record {
  number = refl;
  others = refl;
  services = refl;
  cause = record { later = omega arith; failed = tt; kept = refl };
  way = subst (λ (left : List Reading). AreUnderWay g.T.Outlet.StandsFor g.T.Outlet.Refused g.T.Outlet.services g.T.Outlet.faults c.args.filter.now c.args.service (readings_of c.args.field.now)
      (record { slots = c.args.slots.now; on_isi = of_isi c.args.counts.now; on_pdus = of_pdus c.args.counts.now }) left
      (record { slots = c.args.slots.now; on_isi = of_isi c.args.counts.now; on_pdus = of_pdus c.args.counts.now })
      (record { outlet = c.args.outlet.now; went = Ok tt }) (record { outlet = c.args.outlet.now; went = Ok tt }))
      (sym c.over-reader.ensures.read)
      (begin_all g.T.Outlet.StandsFor g.T.Outlet.Refused g.T.Outlet.services g.T.Outlet.faults c.args.filter.now c.args.service (readings_of c.args.field.now)
      (record { slots = c.args.slots.now; on_isi = of_isi c.args.counts.now; on_pdus = of_pdus c.args.counts.now }) c.args.outlet.now (Ok tt));
}

pub loop-reading-preserved-in-Ok : goal.loop-reading-preserved-in-Ok
loop-reading-preserved-in-Ok g c = record {
  number = c.take_packet-went.ensures.frame_number ∙ c.loop-reading.invariant.number;
  others = c.take_packet-went.ensures.others ∙ c.loop-reading.invariant.others;
  services = c.take_packet-went.ensures.hands.goes.services_are ∙ c.loop-reading.invariant.services;
  cause = caused_then g.T.Outlet.StandsFor g.T.Outlet.Refused g.T.Outlet.services g.T.Outlet.faults
      c.args.outlet.now c.loop-reading.outlet c.take_packet-went.new.outlet c.loop-reading.went c.take_packet-went.result
      c.loop-reading.invariant.cause c.take_packet-went.ensures.hands.goes.cause c.take_packet-went.ensures.hands.goes.stays;
  way = packet_more g.T.Outlet.StandsFor g.T.Outlet.Refused g.T.Outlet.services g.T.Outlet.faults c.args.filter.now c.args.service (readings_of c.args.field.now)
      (record { slots = c.args.slots.now; on_isi = of_isi c.args.counts.now; on_pdus = of_pdus c.args.counts.now }) (record { outlet = c.args.outlet.now; went = Ok tt })
      (packet_in c.in-Ok.packet) c.next_reading.new.reader
      (record { slots = c.loop-reading.slots; on_isi = of_isi c.loop-reading.counts; on_pdus = of_pdus c.loop-reading.counts })
      (record { slots = c.take_packet-went.new.slots; on_isi = of_isi c.take_packet-went.new.counts; on_pdus = of_pdus c.take_packet-went.new.counts })
      (record { outlet = c.loop-reading.outlet; went = c.loop-reading.went }) (record { outlet = c.take_packet-went.new.outlet; went = c.take_packet-went.result })
      (subst (λ (left : List Reading). AreUnderWay g.T.Outlet.StandsFor g.T.Outlet.Refused g.T.Outlet.services g.T.Outlet.faults c.args.filter.now c.args.service (readings_of c.args.field.now)
      (record { slots = c.args.slots.now; on_isi = of_isi c.args.counts.now; on_pdus = of_pdus c.args.counts.now }) left
      (record { slots = c.loop-reading.slots; on_isi = of_isi c.loop-reading.counts; on_pdus = of_pdus c.loop-reading.counts })
      (record { outlet = c.args.outlet.now; went = Ok tt }) (record { outlet = c.loop-reading.outlet; went = c.loop-reading.went }))
      (c.in-Some.ensures.read ∙ ap (λ (r : Result Gse GseFault). reading_in r ∷ c.next_reading.new.reader) c.in-Ok.is)
      c.loop-reading.invariant.way)
      c.take_packet-went.ensures.takes c.take_packet-went.ensures.frame_number c.take_packet-went.ensures.isi c.take_packet-went.ensures.pdus c.take_packet-went.ensures.hands;
}

pub loop-reading-preserved : goal.loop-reading-preserved
loop-reading-preserved g c = record {
  number = c.loop-reading.invariant.number;
  others = c.count_event.ensures.others ∙ c.loop-reading.invariant.others;
  services = c.loop-reading.invariant.services;
  cause = c.loop-reading.invariant.cause;
  way = refusal_more g.T.Outlet.StandsFor g.T.Outlet.Refused g.T.Outlet.services g.T.Outlet.faults c.args.filter.now c.args.service (readings_of c.args.field.now)
      (record { slots = c.args.slots.now; on_isi = of_isi c.args.counts.now; on_pdus = of_pdus c.args.counts.now }) (record { outlet = c.args.outlet.now; went = Ok tt })
      (refusal_in c.in-Err.field-0) c.next_reading.new.reader
      (record { slots = c.loop-reading.slots; on_isi = of_isi c.loop-reading.counts; on_pdus = of_pdus c.loop-reading.counts })
      (record { slots = c.loop-reading.slots; on_isi = of_isi c.count_event.new.counts; on_pdus = of_pdus c.count_event.new.counts })
      (record { outlet = c.loop-reading.outlet; went = c.loop-reading.went })
      (no_packet c.in-Err.field-0)
      (subst (λ (left : List Reading). AreUnderWay g.T.Outlet.StandsFor g.T.Outlet.Refused g.T.Outlet.services g.T.Outlet.faults c.args.filter.now c.args.service (readings_of c.args.field.now)
      (record { slots = c.args.slots.now; on_isi = of_isi c.args.counts.now; on_pdus = of_pdus c.args.counts.now }) left
      (record { slots = c.loop-reading.slots; on_isi = of_isi c.loop-reading.counts; on_pdus = of_pdus c.loop-reading.counts })
      (record { outlet = c.args.outlet.now; went = Ok tt }) (record { outlet = c.loop-reading.outlet; went = c.loop-reading.went }))
      (c.in-Some.ensures.read ∙ ap (λ (r : Result Gse GseFault). reading_in r ∷ c.next_reading.new.reader) c.in-Err.is)
      c.loop-reading.invariant.way)
      refl c.count_event.ensures.isi c.count_event.ensures.pdus;
}

pub returns-clause-hands : goal.returns-clause-hands
returns-clause-hands g c = λ so_far more going pdus_are.
    all_handed g.T.Outlet.StandsFor g.T.Outlet.Refused g.T.Outlet.services g.T.Outlet.faults c.args.filter.now c.args.service so_far (readings_of c.args.field.now)
    (record { slots = c.loop-reading.slots; on_isi = of_isi c.loop-reading.counts; on_pdus = of_pdus c.loop-reading.counts })
    (record { outlet = c.args.outlet.now; went = Ok tt }) (record { outlet = c.loop-reading.outlet; went = c.loop-reading.went }) more
    (subst (λ (left : List Reading). IsUnderWay g.T.Outlet.StandsFor g.T.Outlet.Refused g.T.Outlet.services g.T.Outlet.faults c.args.filter.now c.args.service so_far (readings_of c.args.field.now) left
    (record { slots = c.loop-reading.slots; on_isi = of_isi c.loop-reading.counts; on_pdus = of_pdus c.loop-reading.counts })
    (record { outlet = c.args.outlet.now; went = Ok tt }) (record { outlet = c.loop-reading.outlet; went = c.loop-reading.went }))
    c.in_default.ensures.read.0 (c.loop-reading.invariant.way so_far going))
    pdus_are
