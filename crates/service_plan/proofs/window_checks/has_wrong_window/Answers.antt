use Rattle.service_plan.specs.Plans.{draft_seen}
use Rattle.service_plan.proofs.CheckLemmas.{window_checked}
use Rattle.service_plan.proofs.window_checks.has_wrong_window.Goals as goal

pub returns : goal.returns
returns c =
    let services = c.items-services.ensures.read in
    let wrong = rw services at c.has_wrong.ensures.read in
    let overlap = rw services at c.has_overlap.ensures.read in
    record { read = window_checked c.args.table_packets (draft_seen c.args.draft.now) c.args.draft.now.services _ _ wrong overlap }
