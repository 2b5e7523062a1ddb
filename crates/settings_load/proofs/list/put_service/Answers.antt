use Rattle.std.proofs.Common.{List, ℕ, Option, refl, ap, ◌∙◌, subst}
use Rattle.std.specs.Option.{unwrap_or}
use Rattle.wire_spec.specs.Content.{Puts}
use Rattle.plan.specs.PlanView.{plan_fields}
use Rattle.settings_load.proofs.Moved.{line_put}
use Rattle.settings_load.proofs.list.put_service.Goals as goal

pub returns-clause-written : goal.returns-clause-written
returns-clause-written g c =
    subst (λ (t : List ℕ). Puts c.put_parts.result (g.O.Sink.told c.args.output.now).held (g.O.Sink.told c.put_parts.new.output).held t)
    (line_put (plan_fields c.args.plan.now) c.args.plan.now.services c.args.version c.args.place c.at-service.result.now c.as_bytes.result.now c.as_bytes-2.result.now c.as_bytes-3.result.now c.parts_of-own.result.1 c.unwrap_or-number.result
    refl c.at-service.ensures.read (c.as_bytes.ensures.value ∙ c.text.ensures.read) (c.as_bytes-2.ensures.value ∙ c.parts_of-own.ensures.word) c.parts_of-own.ensures.number (c.unwrap_or-number.ensures ∙ ap (λ (o : Option ℕ). unwrap_or o c.parts_of-own.result.1) c.pid_in.ensures.read) (c.as_bytes-3.ensures.value ∙ c.format-number.ensures.text))
    c.put_parts.ensures.written
