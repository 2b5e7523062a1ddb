use Rattle.std.proofs.Common.{ap, sym, ◌∙◌}
use Rattle.plan_spec.specs.Plan.{ServiceFields}
use Rattle.service_plan.proofs.MoveLemmas.{no_service_after}
use Rattle.service_plan.proofs.ChangeLemmas.{is_within, is_past}
use Rattle.service_plan.proofs.changes.old_rules.Goals as goal

pub rules_after-requires : goal.rules_after-requires
rules_after-requires c = is_within _ _ c.if-is_there.ensures

pub returns-else-is_there : goal.returns-else-is_there
returns-else-is_there c =
    c.new.ensures.written ∙ sym (ap (λ (s : ServiceFields). s.rules) (no_service_after c.args.services.now c.args.before.now c.args.place (is_past _ _ c.if-is_there.ensures)))
