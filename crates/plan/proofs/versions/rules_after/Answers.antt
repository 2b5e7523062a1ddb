use Rattle.std.proofs.Common.{Option, ap, sym, ◌∙◌}
use Rattle.plan_spec.specs.Plan.{ServiceFields, MovedFields}
use Rattle.plan.specs.Parts.{service_seen}
use Rattle.plan.proofs.VersionLemmas.{moved_so, moved_after}
use Rattle.plan.proofs.versions.rules_after.Goals as goal

pub returns-in-Some : goal.returns-in-Some
returns-in-Some c =
    let kept = c.index-services-k.result in
    let moved = moved_after c.args.services.now c.args.changes.now c.args.service kept c.requires c.index-services-k.is in
    ap (λ (last : Option MovedFields). (moved_so (service_seen kept) last).rules) c.in-Some.ensures ∙ sym (ap (λ (s : ServiceFields). s.rules) moved)

pub returns-in-None : goal.returns-in-None
returns-in-None c =
    let kept = c.index-services-k.result in
    let moved = moved_after c.args.services.now c.args.changes.now c.args.service kept c.requires c.index-services-k.is in
    ap (λ (last : Option MovedFields). (moved_so (service_seen kept) last).rules) c.in-None.ensures ∙ sym (ap (λ (s : ServiceFields). s.rules) moved)
