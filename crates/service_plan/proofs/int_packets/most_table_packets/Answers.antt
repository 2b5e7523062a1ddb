use Rattle.std.proofs.Common.{◌≡◌, ℕ, ◌+◌, ◌<◌, ◌≤◌, length, map, fold, max, ap, sym, ◌∙◌, arith}
use Rattle.std.specs.List.{range_with_len}
use Rattle.std.proofs.lemmas.List.{length-map}
use Rattle.plan_spec.specs.Plan.{rule_lists, all_rule_lists}
use Rattle.plan_spec.specs.Checks.{has_no_rule, has_too_many_rules, has_wrong_count}
use Rattle.plan_spec.specs.Changes.{services_in, plan_in}
use Rattle.plan_spec.specs.Signalling.{table_packets}
use Rattle.plan_spec.specs.Wholes.{most_table_packets}
use Rattle.plan_law.proofs.Lists.{neither, none_at}
use Rattle.plan.specs.Parts.{change_seen}
use Rattle.service_plan.specs.Plans.{draft_seen}
use Rattle.service_plan.proofs.RangeLemmas.{fold_more, fold_end}
use Rattle.service_plan.proofs.int_packets.most_table_packets.Goals as goal

zero_is : (n : ℕ) → n ≡ 0 + n
zero_is n = omega arith

pub table_packets-requires-clause-version : goal.table_packets-requires-clause-version
table_packets-requires-clause-version c =
    let within : c.loop-version.version < length c.args.draft.now.changes + 1 = rw c.items-changes.ensures.read at c.loop-version-test.true in
    omega (arith, within)

pub table_packets-requires-clause-rules : goal.table_packets-requires-clause-rules
table_packets-requires-clause-rules c =
    let plan = draft_seen c.args.draft.now in
    let version = c.loop-version.version in
    let below : version < length c.args.draft.now.changes + 1 = rw c.items-changes.ensures.read at c.loop-version-test.true in
    let within : version < length plan.changes + 1 = omega (arith, below, length-map c.args.draft.now.changes change_seen) in
    let right =
    ap (λ v. has_wrong_count (services_in plan v)) (zero_is version)
    ∙ none_at (λ v. has_wrong_count (services_in plan v)) 0 (length plan.changes + 1) version c.requires.rules within in
    (neither (has_no_rule (rule_lists (plan_in plan version))) (has_too_many_rules (all_rule_lists (plan_in plan version))) right).1

pub loop-version-preserved : goal.loop-version-preserved
loop-version-preserved c =
    let plan = draft_seen c.args.draft.now in
    let version = c.loop-version.version in
    let end = length c.args.draft.now.changes + 1 in
    let within : version < end = rw c.items-changes.ensures.read at c.loop-version-test.true in
    rw (c.greater-most.ensures, c.table_packets.ensures.read) (sym (fold_more max (λ v. table_packets (plan_in plan v)) version end c.loop-version.most within) ∙ c.loop-version.invariant)

pub returns : goal.returns
unfolding most_table_packets
returns c =
    let plan = draft_seen c.args.draft.now in
    let end = length c.args.draft.now.changes + 1 in
    let past : end ≤ c.loop-version.version = rw c.items-changes.ensures.read at c.loop-version-test.false in
    record {
      read =
          sym (fold_end max (λ v. table_packets (plan_in plan v)) c.loop-version.version end c.loop-version.most past)
          ∙ c.loop-version.invariant
          ∙ ap (λ (n : ℕ). fold max 0 (map (λ v. table_packets (plan_in plan v)) (range_with_len 0 (n + 1)))) (sym (length-map c.args.draft.now.changes change_seen));
    }
