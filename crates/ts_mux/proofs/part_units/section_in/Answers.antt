use Rattle.std.proofs.Common.{◌≡◌, Option, Some, ap, sym, ◌∙◌}
use Rattle.std.specs.Option.{option_map}
use Rattle.std.proofs.lemmas.Result.{IfOk-weaker}
use Rattle.int_spec.specs.Table.{table_bytes}
use Rattle.plan_spec.specs.Plan.{IntFields}
use Rattle.plan_spec.specs.Changes.{plan_in}
use Rattle.plan_spec.specs.Signalling.{table_of}
use Rattle.plan.specs.Parts.{int_seen}
use Rattle.plan.specs.PlanView.{plan_fields}
use Rattle.plan.specs.declared.plan.IntPlan.{IntPlan}
use Rattle.ts_mux.proofs.part_units.section_in.Goals as goal

same_int : (a b : IntFields) → Some a ≡ Some b → a ≡ b
same_int a b e = cc

pub returns-in-Some-clause-written : goal.returns-in-Some-clause-written
returns-in-Some-clause-written c =
    IfOk-weaker c.int_section.result
    (λ section. section.items ≡ table_bytes (table_of (plan_in (plan_fields c.args.plan.now) c.args.version) (int_seen c.in-Some.int)))
    (λ section. (int : IntFields) → (plan_fields c.args.plan.now).table ≡ Some int → section.items ≡ table_bytes (table_of (plan_in (plan_fields c.args.plan.now) c.args.version) int))
    (λ section is int there.
    let same : int_seen c.in-Some.int ≡ int = same_int (int_seen c.in-Some.int) int (sym (ap (λ (o : Option IntPlan). option_map int_seen o) c.in-Some.is) ∙ there) in
    is ∙ ap (λ (i : IntFields). table_bytes (table_of (plan_in (plan_fields c.args.plan.now) c.args.version) i)) same)
    c.int_section.ensures.written
