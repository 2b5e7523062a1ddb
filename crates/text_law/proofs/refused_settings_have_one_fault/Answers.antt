use Rattle.text_law.proofs.Faults.{one_fault, accepted_is_not_refused}
use Rattle.text_law.proofs.refused_settings_have_one_fault.Goals as goal

pub returns : goal.returns
returns c = record { one = one_fault; apart = accepted_is_not_refused }
