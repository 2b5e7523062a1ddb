use Rattle.std.proofs.Common.{Bool, ◌||◌, not, refl, ap, sym, ◌∙◌}
use Rattle.service_plan.specs.Plans.{draft_seen}
use Rattle.service_plan.proofs.WrongLemmas.{rules_are}
use Rattle.service_plan.proofs.plan_checks.has_wrong_rules.Goals as goal

pub returns : goal.returns
returns c =
    let draft = c.args.draft.now in
    let wrong = rw (c.items.ensures.read, c.items-2.ensures.read) at c.any_wrong_counts-wrong.ensures in
    record { read = ap (λ (b : Bool). not draft.spelled || b) (wrong ∙ sym (rules_are (draft_seen draft) draft.services draft.changes refl refl)) }
