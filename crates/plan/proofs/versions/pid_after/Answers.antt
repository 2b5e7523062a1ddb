use Rattle.std.proofs.Common.{Option, ap, sym, ◌∙◌}
use Rattle.plan_spec.specs.Plan.{ServiceFields, MovedFields, pid_of}
use Rattle.plan.specs.Parts.{kind_seen, service_seen}
use Rattle.plan.proofs.VersionLemmas.{moved_so, moved_after, pid_of_moved, no_pid_moved}
use Rattle.plan.proofs.versions.pid_after.Goals as goal

pub returns-in_default : goal.returns-in_default
returns-in_default c =
    let kept = c.index-services-k.result in
    let moved = moved_after c.args.services.now c.args.changes.now c.args.service kept c.requires c.index-services-k.is in
    sym (ap (λ (s : ServiceFields). pid_of s.kind) moved ∙ no_pid_moved (service_seen kept) _ (sym c.in_default.ensures))

pub returns-in-Some-last_moved : goal.returns-in-Some-last_moved
returns-in-Some-last_moved c =
    let kept = c.index-services-k.result in
    let moved = moved_after c.args.services.now c.args.changes.now c.args.service kept c.requires c.index-services-k.is in
    sym (pid_of_moved (kind_seen kept.kind) _ c.in-Some.own (sym c.in-Some.ensures))
    ∙ ap (λ (last : Option MovedFields). pid_of (moved_so (service_seen kept) last).kind) c.in-Some-last_moved.ensures
    ∙ sym (ap (λ (s : ServiceFields). pid_of s.kind) moved)

pub returns-in-None : goal.returns-in-None
returns-in-None c =
    let kept = c.index-services-k.result in
    let moved = moved_after c.args.services.now c.args.changes.now c.args.service kept c.requires c.index-services-k.is in
    c.in-Some.ensures
    ∙ ap (λ (last : Option MovedFields). pid_of (moved_so (service_seen kept) last).kind) c.in-None.ensures
    ∙ sym (ap (λ (s : ServiceFields). pid_of s.kind) moved)
