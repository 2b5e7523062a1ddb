use Rattle.std.proofs.Common.{ap, sym, ◌∙◌, List, length}
use Rattle.addr_rules.specs.declared.rules.Rule.{Rule}
use Rattle.plan_spec.specs.Plan.{ServiceFields}
use Rattle.plan.specs.Parts.{urgent_seen, service_seen}
use Rattle.plan.specs.declared.service.Service.{Service}
use Rattle.plan.proofs.VersionLemmas.{moved_after}
use Rattle.service_plan.proofs.MoveLemmas.{urgent_stays}
use Rattle.service_plan.proofs.plan_checks.urgent_count.Goals as goal

pub returns : goal.returns
returns c = λ changes.
    let kept = c.index-services-k.result in
    let moved = moved_after c.args.services.now changes c.args.service kept c.requires c.index-services-k.is in
    c.urgent_of_kind.ensures
    ∙ ap (λ (s : Service). length (urgent_seen s.kind)) (sym c.index-services-k.is)
    ∙ ap (λ (l : List Rule). length l) (sym (ap (λ (s : ServiceFields). s.urgent) moved ∙ urgent_stays (service_seen kept) _))
