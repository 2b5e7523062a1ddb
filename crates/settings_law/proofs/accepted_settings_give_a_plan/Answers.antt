use Rattle.std.proofs.Common.{◌||◌, Bool, ap}
use Rattle.plan_spec.specs.Valid.{is_plan_of_pid}
use Rattle.plan_spec.specs.Wholes.{is_whole_of_pid}
use Rattle.settings_law.proofs.Wholes.{accepted_is_plan, accepted_is_whole}
use Rattle.settings_law.proofs.accepted_settings_give_a_plan.Goals as goal

pub returns : goal.returns
returns c = record {
  settings = accepted_is_plan;
  plan = λ bytes plan accepted. ap (λ (b : Bool). b || is_plan_of_pid plan) (accepted_is_plan bytes plan accepted);
  whole = λ bytes plan accepted. ap (λ (b : Bool). b || is_whole_of_pid plan) (accepted_is_whole bytes plan accepted);
}
