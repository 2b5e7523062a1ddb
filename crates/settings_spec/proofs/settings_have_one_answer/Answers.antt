use Rattle.settings_spec.proofs.OneAnswer.{refusal_is_one, acceptance_is_no_refusal}
use Rattle.settings_spec.proofs.settings_have_one_answer.Goals as goal

pub returns-clause-fault : goal.returns-clause-fault
returns-clause-fault c = refusal_is_one

pub returns-clause-either : goal.returns-clause-either
returns-clause-either c = acceptance_is_no_refusal
