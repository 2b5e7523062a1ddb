use Rattle.std.proofs.Common.{◌<◌, ◌≤◌, length, ◌∙◌}
use Rattle.std.proofs.lemmas.List.{take_all}
use Rattle.service_plan.proofs.ChangeLemmas.{rules_taken}
use Rattle.service_plan.proofs.changes.copy_of.Goals as goal

pub loop-i-preserved : goal.loop-i-preserved
loop-i-preserved c =
    let within : c.loop-i.i < length c.args.rules.now = rw c.len-i-end.ensures.read at c.loop-i-test.true in
    c.in_ok-push.ensures.written ∙ rules_taken c.args.rules.now c.loop-i.copy c.loop-i.i _ within c.at.ensures.read c.loop-i.invariant

pub returns : goal.returns
returns c =
    let past : length c.args.rules.now ≤ c.loop-i.i = rw c.len-i-end.ensures.read at c.loop-i-test.false in
    c.loop-i.invariant ∙ take_all c.loop-i.i c.args.rules.now past
