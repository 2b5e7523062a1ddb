use Rattle.std.proofs.Common.{◌≡◌, map, drop}
use Rattle.wire_spec.specs.Content.{Stays}
use Rattle.wire_spec.specs.Lists.{joined}
use Rattle.plan.specs.PlanView.{plan_fields}
use Rattle.settings_load.specs.Lines.{service_line}
use Rattle.settings_load.proofs.Texts.{IsPutTo}
use Rattle.settings_load.proofs.list.put_services.Given as goal

-- the lines of the services before this one were appended
abbrev pub invariant-loop-place : goal.invariant-loop-place
invariant-loop-place g l = record {
  written : IsPutTo (g.O.Sink.told l.fn.output).held (g.O.Sink.told l.output).held (joined (map service_line (plan_fields l.plan).services))
      (joined (map service_line (drop l.place (plan_fields l.plan).services)));
  flushed : Stays (g.O.Sink.told l.fn.output).flushed (g.O.Sink.told l.output).flushed;
  same : (g.O.Sink.told l.output).faults ≡ (g.O.Sink.told l.fn.output).faults;
}
