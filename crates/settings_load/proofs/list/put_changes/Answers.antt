use Rattle.std.proofs.Common.{ℕ, List, ◌+◌, ◌∙◌, arith, refl, ap, subst, drop}
use Rattle.std.proofs.lemmas.List.{length-map, drop_all}
use Rattle.std.proofs.lemmas.Result.{err_from_is_err_and}
use Rattle.ipe_io.proofs.Told.{stays-refl, stays-trans}
use Rattle.plan.specs.Parts.{service_seen, change_seen}
use Rattle.plan.specs.PlanView.{plan_fields}
use Rattle.plan.proofs.VersionLemmas.{changes_are_few}
use Rattle.settings_load.specs.Lines.{AreThere, change_text, changes_text}
use Rattle.settings_load.proofs.Texts.{IsPutTo, none_put, more_put, all_put, part_put}
use Rattle.settings_load.proofs.Moved.{moves_are_there, change_there, changes_more}
use Rattle.settings_load.proofs.list.put_changes.Goals as goal

pub overflow_cast-place : goal.overflow_cast-place
overflow_cast-place g c =
    let few = changes_are_few (plan_fields c.args.plan.now) c.args.plan.now.whole in
    omega (arith, few, length-map c.args.plan.now.changes change_seen, c.len-place-end.ensures.read)

pub overflow_add-place : goal.overflow_add-place
overflow_add-place g c =
    let few = changes_are_few (plan_fields c.args.plan.now) c.args.plan.now.whole in
    omega (arith, few, length-map c.args.plan.now.changes change_seen, c.len-place-end.ensures.read)

pub put_change-requires-clause-there : goal.put_change-requires-clause-there
put_change-requires-clause-there g c =
    let there = moves_are_there (plan_fields c.args.plan.now) c.loop-place.place (change_seen c.at.result.now) c.args.plan.now.whole
    (change_there c.args.plan.now.changes c.loop-place.place c.at.result.now c.at.ensures.read) in
    subst (λ (n : ℕ). AreThere n (change_seen c.at.result.now).moved) (length-map c.args.plan.now.services service_seen) there

pub loop-place-init : goal.loop-place-init
loop-place-init g c = record { written = none_put _ _; flushed = stays-refl _; same = refl }

pub loop-place-preserved : goal.loop-place-preserved
loop-place-preserved g c =
    let plan = plan_fields c.args.plan.now in
    let at : ℕ = c.loop-place.place in
    let there = change_there c.args.plan.now.changes at c.at.result.now c.at.ensures.read in
    record {
      written = more_put (g.O.Sink.told c.args.output.now).held (g.O.Sink.told c.loop-place.output).held (g.O.Sink.told c.put_change.new.output).held
          (changes_text plan 1 plan.changes) (change_text plan (at + 1) (change_seen c.at.result.now)) (changes_text plan (at + 1 + 1) (drop (at + 1) plan.changes))
          (subst (λ (t : List ℕ). IsPutTo (g.O.Sink.told c.args.output.now).held (g.O.Sink.told c.loop-place.output).held (changes_text plan 1 plan.changes) t)
          (changes_more plan (at + 1) plan.changes at (change_seen c.at.result.now) there) c.loop-place.invariant.written)
          c.in_ok-put_change.ensures.written;
      flushed = stays-trans (g.O.Sink.told c.args.output.now).flushed (g.O.Sink.told c.loop-place.output).flushed (g.O.Sink.told c.put_change.new.output).flushed c.loop-place.invariant.flushed c.in_ok-put_change.ensures.flushed;
      same = c.in_ok-put_change.ensures.cause.kept ∙ c.loop-place.invariant.same;
    }

pub returns-in_err-put_change-clause-written : goal.returns-in_err-put_change-clause-written
returns-in_err-put_change-clause-written g c =
    let plan = plan_fields c.args.plan.now in
    let at : ℕ = c.loop-place.place in
    let there = change_there c.args.plan.now.changes at c.at.result.now c.at.ensures.read in
    let failed = err_from_is_err_and c.from_residual.result c.from_residual.ensures.1 in
    rw failed.1 (part_put (g.O.Sink.told c.args.output.now).held (g.O.Sink.told c.loop-place.output).held (g.O.Sink.told c.put_change.new.output).held
    (changes_text plan 1 plan.changes) (change_text plan (at + 1) (change_seen c.at.result.now)) (changes_text plan (at + 1 + 1) (drop (at + 1) plan.changes))
    (subst (λ (t : List ℕ). IsPutTo (g.O.Sink.told c.args.output.now).held (g.O.Sink.told c.loop-place.output).held (changes_text plan 1 plan.changes) t)
    (changes_more plan (at + 1) plan.changes at (change_seen c.at.result.now) there) c.loop-place.invariant.written)
    c.in_err-put_change.ensures.written)

pub returns-in_err-put_change-clause-flushed : goal.returns-in_err-put_change-clause-flushed
returns-in_err-put_change-clause-flushed g c =
    stays-trans (g.O.Sink.told c.args.output.now).flushed (g.O.Sink.told c.loop-place.output).flushed (g.O.Sink.told c.put_change.new.output).flushed c.loop-place.invariant.flushed c.in_err-put_change.ensures.flushed

pub returns-clause-written : goal.returns-clause-written
returns-clause-written g c =
    let plan = plan_fields c.args.plan.now in
    let count = length-map c.args.plan.now.changes change_seen in
    let len = c.len-place-end.ensures.read in
    all_put _ _ _ (changes_text plan (c.loop-place.place + 1) (drop c.loop-place.place plan.changes))
    (ap (changes_text plan (c.loop-place.place + 1)) (drop_all c.loop-place.place plan.changes (omega (arith, count, len)))) c.loop-place.invariant.written
