use Rattle.std.proofs.Common.{List, [], ◌∷◌, ◌++◌, take, ap, sym, ◌∙◌}
use Rattle.addr_rules.specs.declared.rules.Rule.{Rule}
use Rattle.int_spec.specs.Table.{IsRule}
use Rattle.plan_spec.specs.Valid.{is_valid_rule}
use Rattle.ts_mux.proofs.Items.{list_all_at, take_next, all_next}
use Rattle.ts_mux.proofs.plan_int.same_rules.Goals as goal

pub same_rule-requires : goal.same_rule-requires
same_rule-requires c = list_all_at is_valid_rule c.args.rules.now c.loop-place.place c.at.result.now c.at.ensures.read c.requires

pub loop-place-preserved : goal.loop-place-preserved
loop-place-preserved c = record {
  same =
      c.in_ok-push.ensures.written ∙ ap (λ (rules : List Rule). rules ++ c.same_rule.result ∷ []) c.loop-place.invariant.same
      ∙ ap (λ (rule : Rule). take c.loop-place.place c.args.rules.now ++ rule ∷ []) c.same_rule.ensures.same
      ∙ sym (take_next c.args.rules.now c.loop-place.place c.at.result.now c.at.ensures.read);
  are = all_next IsRule c.args.rules.now c.loop-place.place c.at.result.now c.at.ensures.read c.loop-place.invariant.are c.same_rule.ensures.is;
}
