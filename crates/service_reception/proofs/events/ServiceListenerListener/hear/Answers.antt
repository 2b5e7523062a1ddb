use Rattle.std.proofs.Common.{refl, sym, ap, ◌∙◌}
use Rattle.unit_stream.specs.States.{event_in}
use Rattle.service_reception.specs.Counting.{counted_units}
use Rattle.service_reception.specs.Carried.{handling_numbers}
use Rattle.service_reception.proofs.Steps.{no_unit_heard, no_unit_in, unit_heard}
use Rattle.service_reception.proofs.events.ServiceListenerListener.hear.Goals as goal

pub returns-in_default : goal.returns-in_default
returns-in_default g c = record {
  heard = (
    no_unit_heard g.T.Outlet.StandsFor g.T.Outlet.Refused g.T.Outlet.services g.T.Outlet.faults g.K.UnitForm.form g.K.UnitReader.IsOfKind
        (event_in c.args.event.now) c.args.self.now.counts.now c.count_event.new.counts c.args.self.now.filter.now c.args.self.now.service c.args.self.now.outlet.now c.args.self.now.result
        (no_unit_in c.args.event.now c.in_default.not-Unit) c.count_event.ensures.packets c.count_event.ensures.units,
    refl,
    refl,
  );
}

pub returns-then-is_ok : goal.returns-then-is_ok
returns-then-is_ok g c = record {
  heard = (
    unit_heard g.T.Outlet.StandsFor g.T.Outlet.Refused g.T.Outlet.services g.T.Outlet.faults g.K.UnitForm.form g.K.UnitReader.IsOfKind
        (event_in c.args.event.now) c.in-Unit.moment c.in-Unit.bytes.now c.handling_of-handling.result c.args.self.now.counts.now c.count_handling.new.counts
        c.args.self.now.filter.now c.args.self.now.service c.args.self.now.outlet.now c.deliver-self.new.outlet c.args.self.now.result c.deliver-self.result
        (ap event_in c.in-Unit.is) (sym c.is_ok.ensures.value ∙ c.if-is_ok.true) c.handling_of-handling.ensures.told
        (c.count_handling.ensures.packets ∙ c.count_event.ensures.packets)
        (c.count_handling.ensures.units ∙ ap (λ n. counted_units n (handling_numbers c.handling_of-handling.result)) c.count_event.ensures.units)
        c.deliver-self.ensures.told c.deliver-self.ensures.failed c.deliver-self.ensures.services c.deliver-self.ensures.cause,
    refl,
    refl,
  );
}
