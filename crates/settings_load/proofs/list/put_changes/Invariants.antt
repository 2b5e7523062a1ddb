use Rattle.std.proofs.Common.{◌≡◌, ◌+◌, drop}
use Rattle.wire_spec.specs.Content.{Stays}
use Rattle.plan.specs.PlanView.{plan_fields}
use Rattle.settings_load.specs.Lines.{changes_text}
use Rattle.settings_load.proofs.Texts.{IsPutTo}
use Rattle.settings_load.proofs.list.put_changes.Given as goal

-- the lines of the changes before this one were appended
abbrev pub invariant-loop-place : goal.invariant-loop-place
invariant-loop-place g l = record {
  written : IsPutTo (g.O.Sink.told l.fn.output).held (g.O.Sink.told l.output).held (changes_text (plan_fields l.plan) 1 (plan_fields l.plan).changes)
      (changes_text (plan_fields l.plan) (l.place + 1) (drop l.place (plan_fields l.plan).changes));
  flushed : Stays (g.O.Sink.told l.fn.output).flushed (g.O.Sink.told l.output).flushed;
  same : (g.O.Sink.told l.output).faults ≡ (g.O.Sink.told l.fn.output).faults;
}
