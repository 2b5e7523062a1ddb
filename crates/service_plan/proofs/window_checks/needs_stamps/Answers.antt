use Rattle.service_plan.proofs.CheckLemmas.{sliced_and}
use Rattle.service_plan.proofs.window_checks.needs_stamps.Goals as goal

pub returns : goal.returns
returns c = record { read = sliced_and c.args.draft.now.services _ _ _ (rw c.items.ensures.read at c.has_sliced.ensures.read) c.is_plain.ensures.read }
