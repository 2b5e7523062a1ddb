-- Some readings of the data field were taken, and those that the reader has still to give are left.
use Rattle.std.proofs.Common.{◌≡◌, Ok, length}
use Rattle.wire_spec.specs.Causes.{HasCause}
use Rattle.gse_spec.specs.Packet.{readings_of}
use Rattle.gse_reception.specs.Counting.{of_isi, of_pdus, others_of}
use Rattle.gse_reception.proofs.UnderWay.{AreUnderWay}
use Rattle.gse_reception.proofs.field.take_field.Given as goal

abbrev pub invariant-loop-reading : goal.invariant-loop-reading
invariant-loop-reading g l =
    record {
      number : l.slots.frame_number ≡ l.fn.slots.frame_number;
      others : others_of l.counts ≡ others_of l.fn.counts;
      services : g.T.Outlet.services l.outlet ≡ g.T.Outlet.services l.fn.outlet;
      cause : HasCause (g.T.Outlet.faults l.fn.outlet) (g.T.Outlet.faults l.outlet) l.went;
      way : AreUnderWay g.T.Outlet.StandsFor g.T.Outlet.Refused g.T.Outlet.services g.T.Outlet.faults l.filter l.service (readings_of l.field)
          (record { slots = l.fn.slots; on_isi = of_isi l.fn.counts; on_pdus = of_pdus l.fn.counts }) l.reader
          (record { slots = l.slots; on_isi = of_isi l.counts; on_pdus = of_pdus l.counts })
          (record { outlet = l.fn.outlet; went = Ok tt }) (record { outlet = l.outlet; went = l.went });
    }

abbrev pub decreases-loop-reading : goal.decreases-loop-reading
decreases-loop-reading g l = length l.reader
