use Rattle.std.proofs.Common.{◌<◌, ◌≤◌, length, ap, sym, ◌∙◌, arith, List}
use Rattle.addr_rules.specs.declared.rules.Rule.{Rule}
use Rattle.plan.specs.Moves.{services_after}
use Rattle.plan.proofs.VersionLemmas.{length-services_after}
use Rattle.service_plan.proofs.CheckLemmas.{count_wrong, count_right, count_above, count_end}
use Rattle.service_plan.proofs.plan_checks.has_wrong_counts.Goals as goal

pub returns-then-is_wrong_count : goal.returns-then-is_wrong_count
returns-then-is_wrong_count c =
    let after = services_after c.args.services.now c.args.changes.now in
    let within : c.loop-service.service < length after = omega (arith, c.loop-service-test.true, length-services_after c.args.services.now c.args.changes.now) in
    let count = c.len-count.ensures.read ∙ ap (λ (l : List Rule). length l) c.rules_after.ensures in
    let urgent = c.urgent_count-urgent.ensures c.args.changes.now in
    count_wrong after c.loop-service.service c.loop-service.total _ _ within count urgent c.if-is_wrong_count.ensures ∙ sym c.loop-service.invariant.counts

pub loop-service-preserved : goal.loop-service-preserved
loop-service-preserved c =
    let after = services_after c.args.services.now c.args.changes.now in
    let within : c.loop-service.service < length after = omega (arith, c.loop-service-test.true, length-services_after c.args.services.now c.args.changes.now) in
    let count = c.len-count.ensures.read ∙ ap (λ (l : List Rule). length l) c.rules_after.ensures in
    let urgent = c.urgent_count-urgent.ensures c.args.changes.now in
    record {
      few = count_above c.loop-service.total _ _ c.if-is_wrong_count.ensures;
      counts = c.loop-service.invariant.counts ∙ count_right after c.loop-service.service c.loop-service.total _ _ within count urgent c.if-is_wrong_count.ensures;
    }

pub returns : goal.returns
returns c =
    let after = services_after c.args.services.now c.args.changes.now in
    let past : length after ≤ c.loop-service.service = omega (arith, c.loop-service-test.false, length-services_after c.args.services.now c.args.changes.now) in
    sym (c.loop-service.invariant.counts ∙ count_end after c.loop-service.service c.loop-service.total past c.loop-service.invariant.few)
