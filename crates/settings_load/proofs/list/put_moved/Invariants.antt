use Rattle.std.proofs.Common.{◌≡◌, map, drop}
use Rattle.wire_spec.specs.Content.{Stays}
use Rattle.wire_spec.specs.Lists.{joined}
use Rattle.plan.specs.Parts.{moved_seen}
use Rattle.plan.specs.PlanView.{plan_fields}
use Rattle.settings_load.specs.Lines.{moved_line}
use Rattle.settings_load.proofs.Texts.{IsPutTo}
use Rattle.settings_load.proofs.list.put_moved.Given as goal

-- the lines of those before this one were appended
abbrev pub invariant-loop-place : goal.invariant-loop-place
invariant-loop-place g l = record {
  written : IsPutTo (g.O.Sink.told l.fn.output).held (g.O.Sink.told l.output).held (joined (map (moved_line (plan_fields l.plan) l.version) (map moved_seen l.moved)))
      (joined (map (moved_line (plan_fields l.plan) l.version) (drop l.place (map moved_seen l.moved))));
  flushed : Stays (g.O.Sink.told l.fn.output).flushed (g.O.Sink.told l.output).flushed;
  same : (g.O.Sink.told l.output).faults ≡ (g.O.Sink.told l.fn.output).faults;
}
