use Rattle.std.proofs.Common.{◌∙◌, ap, sym, Option, option_map}
use Rattle.wire_spec.specs.Lists.{joined}
use Rattle.plan.specs.Parts.{int_seen}
use Rattle.plan.specs.PlanView.{plan_fields}
use Rattle.plan.specs.declared.plan.IntPlan.{IntPlan}
use Rattle.psi_spec.specs.Tables.{tables_with}
use Rattle.tables_command.proofs.recording.recording_of.Goals as goal

pub returns-in-Ok : goal.returns-in-Ok
returns-in-Ok c = c.in-Ok.ensures ∙ ap (λ (t : Option IntPlan). joined (tables_with (plan_fields c.args.plan.now) (option_map int_seen t))) (sym c.in-Some.is)
