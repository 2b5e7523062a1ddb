use Rattle.std.proofs.Common.{◌∙◌, refl, ap}
use Rattle.unit_stream.specs.declared.reading.JoinEvent.{JoinEvent}
use Rattle.unit_stream.specs.States.{event_in}
use Rattle.service_reception.specs.Counting.{counted_event}
use Rattle.fec_reception.proofs.Heard.{hears_unit, hears_other, no_pair_in}
use Rattle.fec_reception.proofs.events.FrameListenerListener.hear.Goals as goal

pub returns-in-Unit : goal.returns-in-Unit
returns-in-Unit g c = record {
  heard = (
    rw c.in-Unit.is
        (hears_unit g.T.Outlet.StandsFor g.T.Outlet.Refused g.T.Outlet.services g.T.Outlet.faults c.args.self.now.service c.in-Unit.moment c.in-Unit.bytes.now
        c.args.self.now.frames.now c.count_event.new.self c.take_unit-self.new.self c.args.self.now.outlet.now c.take_unit-self.new.outlet c.args.self.now.result c.take_unit-self.result
        (c.count_event.ensures.counted
        ∙ ap (λ (e : JoinEvent). record c.args.self.now.frames.now { on_pid = counted_event c.args.self.now.frames.now.on_pid (event_in e) }) c.in-Unit.is)
        c.take_unit-self.ensures.packets c.take_unit-self.ensures.unread c.take_unit-self.ensures.goes c.take_unit-self.ensures.framed c.take_unit-self.ensures.delivered),
    refl,
    refl,
  );
}

pub returns-in_default : goal.returns-in_default
returns-in_default g c = record {
  heard = (
    hears_other g.T.Outlet.StandsFor g.T.Outlet.Refused g.T.Outlet.services g.T.Outlet.faults c.args.self.now.service (event_in c.args.event.now)
        c.args.self.now.frames.now c.count_event.new.self c.args.self.now.outlet.now c.args.self.now.result (no_pair_in c.args.event.now c.in_default.not-Unit) c.count_event.ensures.counted,
    refl,
    refl,
  );
}
