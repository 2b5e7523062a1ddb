use Rattle.service_plan.proofs.CheckLemmas.{names_found}
use Rattle.service_plan.proofs.unique_checks.has_same_name.Goals as goal

pub returns : goal.returns
returns c = record { read = rw (names_found c.args.draft.now.services) (rw c.items.ensures.read at c.has_pair_of_names.ensures.read) }
