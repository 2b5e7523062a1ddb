use Rattle.std.proofs.Common.{option_map}
use Rattle.plan.specs.Parts.{int_seen}
use Rattle.service_plan.proofs.CheckLemmas.{pid_checked}
use Rattle.service_plan.proofs.unique_checks.has_same_pid.Goals as goal

pub returns : goal.returns
returns c =
    let services = c.items-services.ensures.read in
    let int = rw services at c.has_int_pid.ensures.read in
    let pids = rw services at c.has_pair_of_ids.ensures.read in
    let isis = rw services at c.has_pair_of_ids-2.ensures.read in
    record { read = pid_checked (option_map int_seen c.args.draft.now.table) c.args.draft.now.services _ _ _ int pids isis }
