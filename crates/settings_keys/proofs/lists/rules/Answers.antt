use Rattle.settings_keys.proofs.ListLemmas.{one_rule_more, not_all_rules, all_rules, texts_more, texts_end}
use Rattle.settings_keys.proofs.lists.rules.Goals as goal

pub returns-in-None-parse_rule-clause-only : goal.returns-in-None-parse_rule-clause-only
returns-in-None-parse_rule-clause-only c =
    let texts = texts_more _ _ _ _ c.loop-item-test.true c.item-item.is c.in-Some.ensures in
    let far = rw texts at c.loop-item.invariant in
    λ others are. absurd (not_all_rules _ _ _ _ far c.in-None-parse_rule.ensures.only others are)

pub loop-item-preserved : goal.loop-item-preserved
loop-item-preserved c =
    let texts = texts_more _ _ _ _ c.loop-item-test.true c.item-item.is c.in-Some.ensures in
    let far = rw texts at c.loop-item.invariant in
    rw c.in_ok-push-in-Some-parse_rule.ensures.written (one_rule_more _ _ _ _ _ far c.in-Some-parse_rule.ensures.read c.in-Some-parse_rule.ensures.only)

pub returns-clause-spelled : goal.returns-clause-spelled
returns-clause-spelled c =
    let end = texts_end c.args.items.now c.loop-item.item-index c.loop-item-test.false in
    λ _. all_rules _ _ (rw end at c.loop-item.invariant)
