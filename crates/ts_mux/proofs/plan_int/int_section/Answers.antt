use Rattle.std.proofs.Common.{◌≡◌, take, ap, ◌∙◌}
use Rattle.std.proofs.lemmas.Result.{IfOk-weaker}
use Rattle.int_spec.specs.Table.{table_bytes}
use Rattle.plan_spec.specs.Changes.{plan_in}
use Rattle.plan_spec.specs.Signalling.{table_of}
use Rattle.plan.specs.Parts.{int_seen}
use Rattle.plan.specs.PlanView.{plan_fields}
use Rattle.ts_mux.proofs.plan_int.int_section.Goals as goal

pub returns-clause-written : goal.returns-clause-written
returns-clause-written c =
    IfOk-weaker c.from_slice.result (λ section. section.items ≡ take c.in-Ok.size c.write.new.into) (λ section. section.items ≡ table_bytes (table_of (plan_in (plan_fields c.args.plan.now) c.args.version) (int_seen c.args.int.now)))
    (λ section is. is ∙ c.in-Ok.ensures.written ∙ ap table_bytes c.in_ok-table.ensures.written) c.from_slice.ensures.items
