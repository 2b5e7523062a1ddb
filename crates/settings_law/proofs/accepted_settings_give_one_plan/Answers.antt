use Rattle.settings_law.proofs.Spellings.{one_plan, one_rule}
use Rattle.settings_law.proofs.accepted_settings_give_one_plan.Goals as goal

pub returns-clause-plan : goal.returns-clause-plan
returns-clause-plan c = one_plan

pub returns-clause-rule : goal.returns-clause-rule
returns-clause-rule c = one_rule
