use Rattle.std.proofs.Common.{arith}
use Rattle.std.proofs.lemmas.List.{length-map}
use Rattle.plan.specs.Parts.{service_seen}
use Rattle.plan.specs.PlanView.{plan_fields}
use Rattle.stream_law.proofs.Plans.{few_services}
use Rattle.ts_mux.proofs.services.keeps_pid.Goals as goal

pub overflow_cast-k : goal.overflow_cast-k
overflow_cast-k c = omega (arith, few_services (plan_fields c.args.plan.now) c.args.plan.now.valid, c.requires.service, length-map c.args.plan.now.services service_seen)

pub overflow_cast-k-in-Some : goal.overflow_cast-k-in-Some
overflow_cast-k-in-Some c = omega (arith, few_services (plan_fields c.args.plan.now) c.args.plan.now.valid, c.requires.service, length-map c.args.plan.now.services service_seen)
