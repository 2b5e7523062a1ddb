use Rattle.std.proofs.Common.{ap, sym}
use Rattle.std.specs.Option.{unwrap_or}
use Rattle.plan_spec.specs.Plan.{ServiceFields, pid_of}
use Rattle.service_plan.proofs.MoveLemmas.{no_service_after}
use Rattle.service_plan.proofs.ChangeLemmas.{is_within, is_past}
use Rattle.service_plan.proofs.changes.old_pid.Goals as goal

pub pid_after-requires : goal.pid_after-requires
pid_after-requires c = is_within _ _ c.if-is_there.ensures

pub returns-else-is_there : goal.returns-else-is_there
returns-else-is_there c =
    sym (ap (λ (s : ServiceFields). unwrap_or (pid_of s.kind) 0) (no_service_after c.args.services.now c.args.before.now c.args.place (is_past _ _ c.if-is_there.ensures)))
