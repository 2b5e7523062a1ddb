use Rattle.service_plan.specs.Plans.{draft_seen}
use Rattle.service_plan.proofs.CheckLemmas.{gap_checked}
use Rattle.service_plan.proofs.window_checks.has_short_gap.Goals as goal

pub returns : goal.returns
returns c = record { read = gap_checked (draft_seen c.args.draft.now) c.args.draft.now.services _ (rw c.items.ensures.read at c.any_short_gap.ensures.read) }
