use Rattle.std.proofs.lemmas.Result.{err_from_is_err_and, IfOk-weaker, IfErr-weaker}
use Rattle.toml.specs.View.{table_view}
use Rattle.service_plan.proofs.AcceptLemmas.{refused_text, refused_settings, accepted_settings, only_memory}
use Rattle.service_plan.proofs.read.read_plan.Goals as goal

pub returns-in_err-top-clause-refused : goal.returns-in_err-top-clause-refused
returns-in_err-top-clause-refused c =
    let failed = err_from_is_err_and c.from_residual.result c.from_residual.ensures.1 in
    rw (failed.1, failed.2) (refused_text _ _ c.in_err-top.ensures.refused)

pub returns-in_err-top-clause-only : goal.returns-in_err-top-clause-only
returns-in_err-top-clause-only c = λ plan accepted.
    let failed = err_from_is_err_and c.from_residual.result c.from_residual.ensures.1 in
    rw (failed.1, failed.2) (only_memory _ plan _ (refused_text _ _ c.in_err-top.ensures.refused) accepted)

pub returns-clause-read : goal.returns-clause-read
returns-clause-read c =
    IfOk-weaker c.plan_of_table.result _ _ (λ plan accepted. accepted_settings c.args.text.now (table_view c.in_ok-top.top) _ c.in_ok-top.ensures.read accepted) c.plan_of_table.ensures.read

pub returns-clause-refused : goal.returns-clause-refused
returns-clause-refused c =
    IfErr-weaker c.plan_of_table.result _ _ (λ e refused. refused_settings c.args.text.now (table_view c.in_ok-top.top) e c.in_ok-top.ensures.read refused) c.plan_of_table.ensures.refused

pub returns-clause-only : goal.returns-clause-only
returns-clause-only c = λ plan accepted.
    IfErr-weaker c.plan_of_table.result _ _ (λ e refused. only_memory c.args.text.now plan e (refused_settings c.args.text.now (table_view c.in_ok-top.top) e c.in_ok-top.ensures.read refused) accepted) c.plan_of_table.ensures.refused
