use Rattle.std.proofs.Common.{◌+◌, length, take, sym, ◌∙◌, true, false}
use Rattle.plan_spec.specs.Checks.{has_wrong_count}
use Rattle.plan.specs.Moves.{services_after}
use Rattle.service_plan.proofs.RangeLemmas.{any_more, any_end}
use Rattle.service_plan.proofs.plan_checks.any_wrong_counts.Goals as goal

pub returns-then-has_wrong_counts : goal.returns-then-has_wrong_counts
returns-then-has_wrong_counts c =
    sym (c.loop-version.invariant
    ∙ any_more (λ version. has_wrong_count (services_after c.args.services.now (take version c.args.changes.now))) c.loop-version.version (length c.args.changes.now + 1) true c.loop-version-test.true c.if-has_wrong_counts.ensures)

pub loop-version-preserved : goal.loop-version-preserved
loop-version-preserved c =
    c.loop-version.invariant
    ∙ any_more (λ version. has_wrong_count (services_after c.args.services.now (take version c.args.changes.now))) c.loop-version.version (length c.args.changes.now + 1) false c.loop-version-test.true c.if-has_wrong_counts.ensures

pub returns : goal.returns
returns c =
    sym (c.loop-version.invariant
    ∙ any_end (λ version. has_wrong_count (services_after c.args.services.now (take version c.args.changes.now))) c.loop-version.version (length c.args.changes.now + 1) c.loop-version-test.false)
