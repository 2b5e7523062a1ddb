use Rattle.std.proofs.Common.{◌==◌, false, ◌∙◌, sym}
use Rattle.plan.specs.Parts.{kind_seen}
use Rattle.service_plan.specs.Wholes.{id_seen}
use Rattle.plan.specs.declared.service.Service.{Service}
use Rattle.service_plan.proofs.CheckLemmas.{any_found}
use Rattle.service_plan.proofs.unique_checks.has_int_pid.Goals as goal

pub returns-in-Some : goal.returns-in-Some
returns-in-Some c = record {
  read = rw c.in-Some.is (c.has_id.ensures.read ∙ sym (any_found (λ x. c.in-Some.int.pid == x) (λ (s : Service). id_seen false (kind_seen s.kind)) c.args.services.now));
}
