use Rattle.std.proofs.Common.{◌+◌, length, take, sym, ◌∙◌}
use Rattle.plan_spec.specs.Changes.{with_pid_behind}
use Rattle.plan.specs.Moves.{pid_after}
use Rattle.service_plan.proofs.RangeLemmas.{fold_more, fold_end}
use Rattle.service_plan.proofs.change_checks.pids_of.Goals as goal

pub loop-version-preserved : goal.loop-version-preserved
loop-version-preserved c =
    let services = c.args.services.now in
    let changes = c.args.changes.now in
    let version = c.loop-version.version in
    rw (c.in_ok-put_behind.ensures, c.pid_after-pid.ensures)
    (sym (fold_more with_pid_behind (λ v. pid_after services (take v changes) c.args.service) version (length changes + 1) c.loop-version.pids.items c.loop-version-test.true) ∙ c.loop-version.invariant)

pub returns : goal.returns
returns c =
    let services = c.args.services.now in
    let changes = c.args.changes.now in
    sym (fold_end with_pid_behind (λ v. pid_after services (take v changes) c.args.service) c.loop-version.version (length changes + 1) c.loop-version.pids.items c.loop-version-test.false)
    ∙ c.loop-version.invariant
