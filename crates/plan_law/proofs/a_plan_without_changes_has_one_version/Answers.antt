use Rattle.std.proofs.Common.{ap₂}
use Rattle.plan_spec.specs.Plan.{PlanFields}
use Rattle.plan_spec.specs.Offered.{Records, offered}
use Rattle.plan_law.proofs.Alone.{versions_alone, plan_alone, records_alone, whole_alone}
use Rattle.plan_law.proofs.a_plan_without_changes_has_one_version.Goals as goal

pub returns : goal.returns
returns c = record {
  versions = λ plan first none. versions_alone plan first none;
  plan = λ plan first none. plan_alone plan first none;
  records = λ plan records first none. records_alone plan first none records;
  offered = λ plan records k first none. ap₂ (λ (p : PlanFields) (r : Records). offered p r k) (plan_alone plan first none) (records_alone plan first none records);
  whole = λ plan first none is. whole_alone plan first none is;
}
