use Rattle.std.proofs.Common.{ℕ, List, ◌+◌, ◌∙◌, arith, refl, subst, map, drop, get_or}
use Rattle.std.proofs.lemmas.List.{length-map}
use Rattle.std.proofs.lemmas.Result.{err_from_is_err_and}
use Rattle.wire_spec.specs.Lists.{joined}
use Rattle.ipe_io.proofs.Told.{stays-refl, stays-trans}
use Rattle.plan_spec.specs.Plan.{ServiceFields}
use Rattle.plan_spec.specs.Changes.{no_service}
use Rattle.plan.specs.Parts.{service_seen}
use Rattle.plan.specs.PlanView.{plan_fields}
use Rattle.plan.proofs.RouteLemmas.{plans_are_small}
use Rattle.settings_load.specs.Lines.{service_line}
use Rattle.settings_load.proofs.Texts.{IsPutTo, none_put, more_put, all_put, part_put, joined_more, joined_none}
use Rattle.settings_load.proofs.list.put_services.Goals as goal

pub overflow_cast-place-end : goal.overflow_cast-place-end
overflow_cast-place-end g c =
    let few = plans_are_small (plan_fields c.args.plan.now) c.args.plan.now.valid in
    omega (arith, few, length-map c.args.plan.now.services service_seen, c.len-place-end.ensures.read)

pub loop-place-init : goal.loop-place-init
loop-place-init g c = record { written = none_put _ _; flushed = stays-refl _; same = refl }

pub loop-place-preserved : goal.loop-place-preserved
loop-place-preserved g c =
    let services : List ServiceFields = (plan_fields c.args.plan.now).services in
    let at : ℕ = c.loop-place.place in
    let count = length-map c.args.plan.now.services service_seen in
    let len = c.len-place-end.ensures.read in
    record {
      written = more_put (g.O.Sink.told c.args.output.now).held (g.O.Sink.told c.loop-place.output).held (g.O.Sink.told c.put_service.new.output).held
          (joined (map service_line services)) (service_line (get_or services at no_service)) (joined (map service_line (drop (at + 1) services)))
          (subst (λ (t : List ℕ). IsPutTo (g.O.Sink.told c.args.output.now).held (g.O.Sink.told c.loop-place.output).held (joined (map service_line services)) t)
          (joined_more service_line services at no_service (omega (arith, count, len))) c.loop-place.invariant.written)
          c.in_ok-put_service.ensures.written;
      flushed = stays-trans (g.O.Sink.told c.args.output.now).flushed (g.O.Sink.told c.loop-place.output).flushed (g.O.Sink.told c.put_service.new.output).flushed c.loop-place.invariant.flushed c.in_ok-put_service.ensures.flushed;
      same = c.in_ok-put_service.ensures.cause.kept ∙ c.loop-place.invariant.same;
    }

pub returns-in_err-put_service-clause-written : goal.returns-in_err-put_service-clause-written
returns-in_err-put_service-clause-written g c =
    let services : List ServiceFields = (plan_fields c.args.plan.now).services in
    let at : ℕ = c.loop-place.place in
    let count = length-map c.args.plan.now.services service_seen in
    let len = c.len-place-end.ensures.read in
    let failed = err_from_is_err_and c.from_residual.result c.from_residual.ensures.1 in
    rw failed.1 (part_put (g.O.Sink.told c.args.output.now).held (g.O.Sink.told c.loop-place.output).held (g.O.Sink.told c.put_service.new.output).held
    (joined (map service_line services)) (service_line (get_or services at no_service)) (joined (map service_line (drop (at + 1) services)))
    (subst (λ (t : List ℕ). IsPutTo (g.O.Sink.told c.args.output.now).held (g.O.Sink.told c.loop-place.output).held (joined (map service_line services)) t)
    (joined_more service_line services at no_service (omega (arith, count, len))) c.loop-place.invariant.written)
    c.in_err-put_service.ensures.written)

pub returns-in_err-put_service-clause-flushed : goal.returns-in_err-put_service-clause-flushed
returns-in_err-put_service-clause-flushed g c =
    stays-trans (g.O.Sink.told c.args.output.now).flushed (g.O.Sink.told c.loop-place.output).flushed (g.O.Sink.told c.put_service.new.output).flushed c.loop-place.invariant.flushed c.in_err-put_service.ensures.flushed

pub returns-clause-written : goal.returns-clause-written
returns-clause-written g c =
    let count = length-map c.args.plan.now.services service_seen in
    let len = c.len-place-end.ensures.read in
    all_put _ _ _ (joined (map service_line (drop c.loop-place.place (plan_fields c.args.plan.now).services)))
    (joined_none service_line (plan_fields c.args.plan.now).services c.loop-place.place (omega (arith, count, len))) c.loop-place.invariant.written
