use Rattle.std.proofs.Common.{refl, sym, ◌∙◌, arith}
use Rattle.plan.specs.PlanView.{plan_fields}
use Rattle.stream_law.proofs.Wholes.{few_changes}
use Rattle.ts_mux.proofs.Scheduled.{goes_on_is}
use Rattle.ts_mux.proofs.services.times_of.Goals as goal

pub goes_on-requires-clause-versions : goal.goes_on-requires-clause-versions
goes_on-requires-clause-versions c = omega (arith, c.requires.lists.versions, few_changes (plan_fields c.args.plan.now) c.args.plan.now.whole)

pub returns-clause-goes : goal.returns-clause-goes
returns-clause-goes c = λ is. record {
  form_is = refl;
  rate_is = refl;
  cycle_is = refl;
  before_is = refl;
  goes_on_is = goes_on_is (plan_fields c.args.plan.now) c.args.lists.now c.args.k c.args.version is c.requires.lists.versions ∙ sym c.goes_on.ensures.read;
}
