use Rattle.std.proofs.lemmas.Result.{err_from_is_err_and}
use Rattle.settings_load.proofs.Texts.{first_part, puts_both}
use Rattle.settings_load.proofs.list.put_plan.Goals as goal

pub returns-clause-written : goal.returns-clause-written
returns-clause-written g c = puts_both c.put_changes.result _ _ _ _ _ c.in_ok-put_services.ensures.written c.put_changes.ensures.written

pub returns-in_err-put_services-clause-written : goal.returns-in_err-put_services-clause-written
returns-in_err-put_services-clause-written g c =
    let failed = err_from_is_err_and c.from_residual.result c.from_residual.ensures.1 in
    rw failed.1 (first_part _ _ _ _ c.in_err-put_services.ensures.written)
