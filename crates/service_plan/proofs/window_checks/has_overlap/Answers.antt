use Rattle.std.proofs.Common.{◌∙◌, sym, true, false}
use Rattle.plan_spec.specs.Plan.{sliced_of}
use Rattle.plan_spec.specs.Checks.{overlaps}
use Rattle.plan.specs.Parts.{kind_seen}
use Rattle.plan.specs.declared.service.Service.{Service}
use Rattle.service_plan.proofs.CheckLemmas.{pairs_more}
use Rattle.service_plan.proofs.window_checks.has_overlap.Goals as goal

pub returns-then-overlaps_any : goal.returns-then-overlaps_any
returns-then-overlaps_any c =
    let step = pairs_more overlaps (λ (s : Service). sliced_of (kind_seen s.kind)) c.args.services.now c.loop-i.i c.index-services-i.result _ true c.loop-i-test.true c.index-services-i.is (sym c.in-Some.ensures.read) (rw c.after.ensures.read at c.if-overlaps_any.ensures.read) in
    record { read = sym (c.loop-i.invariant ∙ step) }

pub loop-i-preserved : goal.loop-i-preserved
loop-i-preserved c =
    let step = pairs_more overlaps (λ (s : Service). sliced_of (kind_seen s.kind)) c.args.services.now c.loop-i.i c.index-services-i.result _ false c.loop-i-test.true c.index-services-i.is (sym c.in-Some.ensures.read) (rw c.after.ensures.read at c.if-overlaps_any.ensures.read) in
    c.loop-i.invariant ∙ step
