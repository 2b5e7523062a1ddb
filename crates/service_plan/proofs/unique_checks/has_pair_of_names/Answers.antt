use Rattle.std.proofs.Common.{◌∙◌, sym, refl, true, false, bytes_eq, Some}
use Rattle.plan.specs.declared.service.Service.{Service}
use Rattle.service_plan.proofs.CheckLemmas.{pairs_more}
use Rattle.service_plan.proofs.unique_checks.has_pair_of_names.Goals as goal

pub returns-then-has_name : goal.returns-then-has_name
returns-then-has_name c =
    let step = pairs_more bytes_eq (λ (s : Service). Some s.name) c.args.services.now c.loop-i.i c.index-services-i.result _ true c.loop-i-test.true c.index-services-i.is refl (rw (c.text.ensures.read, c.after.ensures.read) at c.if-has_name.ensures.read) in
    record { read = sym (c.loop-i.invariant ∙ step) }

pub loop-i-preserved : goal.loop-i-preserved
loop-i-preserved c =
    let step = pairs_more bytes_eq (λ (s : Service). Some s.name) c.args.services.now c.loop-i.i c.index-services-i.result _ false c.loop-i-test.true c.index-services-i.is refl (rw (c.text.ensures.read, c.after.ensures.read) at c.if-has_name.ensures.read) in
    c.loop-i.invariant ∙ step
