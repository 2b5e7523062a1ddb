use Rattle.std.proofs.Common.{◌∙◌, sym, true, false, ◌==◌}
use Rattle.plan.specs.Parts.{kind_seen}
use Rattle.service_plan.specs.Wholes.{id_seen}
use Rattle.plan.specs.declared.service.Service.{Service}
use Rattle.service_plan.proofs.CheckLemmas.{pairs_more}
use Rattle.service_plan.proofs.unique_checks.has_pair_of_ids.Goals as goal

pub returns-then-has_id : goal.returns-then-has_id
returns-then-has_id c =
    let step = pairs_more (λ a b. a == b) (λ (s : Service). id_seen c.args.baseband (kind_seen s.kind)) c.args.services.now c.loop-i.i c.index-services-i.result _ true c.loop-i-test.true c.index-services-i.is (sym c.in-Some.ensures.read) (rw c.after.ensures.read at c.if-has_id.ensures.read) in
    record { read = sym (c.loop-i.invariant ∙ step) }

pub loop-i-preserved : goal.loop-i-preserved
loop-i-preserved c =
    let step = pairs_more (λ a b. a == b) (λ (s : Service). id_seen c.args.baseband (kind_seen s.kind)) c.args.services.now c.loop-i.i c.index-services-i.result _ false c.loop-i-test.true c.index-services-i.is (sym c.in-Some.ensures.read) (rw c.after.ensures.read at c.if-has_id.ensures.read) in
    c.loop-i.invariant ∙ step
