use Rattle.std.proofs.lemmas.Result.{err_from_is_err_and}
use Rattle.service_plan.proofs.AcceptLemmas.{accepted_table, accepted_is_plan, accepted_is_whole, refused_tables, refused_wholes}
use Rattle.service_plan.proofs.read.plan_of_table.Goals as goal

pub returns-in_err-draft-clause-refused : goal.returns-in_err-draft-clause-refused
returns-in_err-draft-clause-refused c =
    let failed = err_from_is_err_and c.from_residual.result c.from_residual.ensures.1 in
    rw (failed.1, failed.2) (refused_tables _ _ c.in_err-draft.ensures.read)

pub invariant_of-result : goal.invariant_of-result
invariant_of-result c =
    let table = accepted_table _ c.in_ok-draft.draft c.in_ok-draft.ensures.read.1 c.in_ok-draft.ensures.read.0 c.in_ok-check_whole.ensures.read.0 in
    record { valid = accepted_is_plan _ _ table; whole = accepted_is_whole _ _ table }

pub returns-clause-read : goal.returns-clause-read
returns-clause-read c = accepted_table _ c.in_ok-draft.draft c.in_ok-draft.ensures.read.1 c.in_ok-draft.ensures.read.0 c.in_ok-check_whole.ensures.read.0

pub returns-in_err-check_whole-clause-refused : goal.returns-in_err-check_whole-clause-refused
returns-in_err-check_whole-clause-refused c =
    let failed = err_from_is_err_and c.from_residual-in_err-check_whole.result c.from_residual-in_err-check_whole.ensures.1 in
    rw (failed.1, failed.2) (refused_wholes _ c.in_ok-draft.draft _ c.in_ok-draft.ensures.read.1 c.in_ok-draft.ensures.read.0 c.in_err-check_whole.ensures.read)
