use Rattle.std.proofs.Common.{◌∙◌, ◌+◌, List, length, get_or, drop, [], ◌∷◌, sym, ap, subst, arith}
use Rattle.std.proofs.lemmas.List.{length-map, length-append, take_at}
use Rattle.plan.specs.Parts.{change_seen}
use Rattle.plan.specs.PlanView.{plan_fields}
use Rattle.stream_law.proofs.Wholes.{few_changes}
use Rattle.ts_mux.specs.PartUnits.{MadeUnits, AreUnitsOf, AreNumbers}
use Rattle.ts_mux.specs.Services.{frames_before}
use Rattle.ts_mux.proofs.Numbers.{few_frames}
use Rattle.ts_mux.proofs.Items.{each_pushed}
use Rattle.ts_mux.proofs.sending.units_of.Goals as goal

pub overflow_cast-version-end : goal.overflow_cast-version-end
overflow_cast-version-end c =
    omega (arith, few_changes (plan_fields c.args.plan.now) c.args.plan.now.whole, c.requires.versions, c.versions-version-end.ensures.read, length-map c.args.plan.now.changes change_seen)

pub loop-version-preserved : goal.loop-version-preserved
loop-version-preserved c = record {
  size = ap (λ (l : List MadeUnits). length l) c.in_ok-push.ensures.items ∙ length-append c.loop-version.units.items (c.in_ok-new.field-0 ∷ []) ∙ omega (arith, c.loop-version.invariant.size);
  numbers = subst (AreNumbers (plan_fields c.args.plan.now) c.args.lists.now (c.loop-version.version + 1))
      (sym (take_at c.new.new.numbers (drop (length c.new.new.numbers) c.loop-version.numbers.items) c.loop-version.numbers.len
      (omega (arith, c.in_ok-new.ensures.numbers.size, c.loop-version.invariant.numbers.size, c.loop-version.numbers.ok.0))))
      c.in_ok-new.ensures.numbers;
  each = each_pushed (λ version (made : MadeUnits). AreUnitsOf (plan_fields c.args.plan.now) version (frames_before (plan_fields c.args.plan.now) c.args.lists.now version) (get_or c.args.lists.now version []) made) c.loop-version.units.items c.push.new.self.items c.in_ok-new.field-0 c.loop-version.version
      c.loop-version.invariant.size c.in_ok-push.ensures.items c.loop-version.invariant.each c.in_ok-new.ensures.made;
}

pub new-requires-clause-few : goal.new-requires-clause-few
new-requires-clause-few c = λ k known.
    omega (arith, few_frames (plan_fields c.args.plan.now) c.args.lists.now (c.loop-version.version + 1) k (omega (arith, c.loop-version-test.true, c.versions-version-end.ensures.read)), c.requires.few)
