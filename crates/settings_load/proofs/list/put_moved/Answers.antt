use Rattle.std.proofs.Common.{ℕ, ◌<◌, List, ◌++◌, ◌+◌, ◌∙◌, arith, refl, ap, subst, map, drop, length}
use Rattle.std.proofs.lemmas.List.{length-map}
use Rattle.std.proofs.lemmas.Option.{slice_get_within}
use Rattle.std.proofs.lemmas.Result.{err_from_is_err_and}
use Rattle.wire_spec.specs.Lists.{joined}
use Rattle.ipe_io.proofs.Told.{stays-refl, stays-trans}
use Rattle.plan_spec.specs.Plan.{MovedFields}
use Rattle.plan.specs.Parts.{moved_seen}
use Rattle.plan.specs.PlanView.{plan_fields}
use Rattle.settings_load.specs.Lines.{moved_line}
use Rattle.settings_load.proofs.Texts.{IsPutTo, none_put, more_put, all_put, part_put, joined_more, joined_none}
use Rattle.settings_load.proofs.Moved.{moved_at}
use Rattle.settings_load.proofs.list.put_moved.Goals as goal

pub put_service-requires-clause-place : goal.put_service-requires-clause-place
put_service-requires-clause-place g c =
    let at : ℕ = c.loop-place.place in
    let within = slice_get_within c.args.moved.now at c.at.result.now c.at.ensures.read in
    let is = moved_at c.args.moved.now at c.at.result.now c.at.ensures.read in
    subst (λ (m : MovedFields). m.service < length c.args.plan.now.services) is
    (c.requires.there at (moved_seen c.at.result.now) (omega (arith, within, length-map c.args.moved.now moved_seen)))

pub loop-place-init : goal.loop-place-init
loop-place-init g c = record { written = none_put _ _; flushed = stays-refl _; same = refl }

pub loop-place-preserved : goal.loop-place-preserved
loop-place-preserved g c =
    let moved : List MovedFields = map moved_seen c.args.moved.now in
    let line : MovedFields → List ℕ = moved_line (plan_fields c.args.plan.now) c.args.version in
    let at : ℕ = c.loop-place.place in
    let count = length-map c.args.moved.now moved_seen in
    let within = slice_get_within c.args.moved.now at c.at.result.now c.at.ensures.read in
    let is = moved_at c.args.moved.now at c.at.result.now c.at.ensures.read in
    record {
      written = more_put (g.O.Sink.told c.args.output.now).held (g.O.Sink.told c.loop-place.output).held (g.O.Sink.told c.put_service.new.output).held
          (joined (map line moved)) (line (moved_seen c.at.result.now)) (joined (map line (drop (at + 1) moved)))
          (subst (λ (t : List ℕ). IsPutTo (g.O.Sink.told c.args.output.now).held (g.O.Sink.told c.loop-place.output).held (joined (map line moved)) t)
          (joined_more line moved at (moved_seen c.at.result.now) (omega (arith, count, within)) ∙ ap (λ (m : MovedFields). line m ++ joined (map line (drop (at + 1) moved))) is)
          c.loop-place.invariant.written)
          c.in_ok-put_service.ensures.written;
      flushed = stays-trans (g.O.Sink.told c.args.output.now).flushed (g.O.Sink.told c.loop-place.output).flushed (g.O.Sink.told c.put_service.new.output).flushed c.loop-place.invariant.flushed c.in_ok-put_service.ensures.flushed;
      same = c.in_ok-put_service.ensures.cause.kept ∙ c.loop-place.invariant.same;
    }

pub returns-in_err-put_service-clause-written : goal.returns-in_err-put_service-clause-written
returns-in_err-put_service-clause-written g c =
    let moved : List MovedFields = map moved_seen c.args.moved.now in
    let line : MovedFields → List ℕ = moved_line (plan_fields c.args.plan.now) c.args.version in
    let at : ℕ = c.loop-place.place in
    let count = length-map c.args.moved.now moved_seen in
    let within = slice_get_within c.args.moved.now at c.at.result.now c.at.ensures.read in
    let is = moved_at c.args.moved.now at c.at.result.now c.at.ensures.read in
    let failed = err_from_is_err_and c.from_residual.result c.from_residual.ensures.1 in
    rw failed.1 (part_put (g.O.Sink.told c.args.output.now).held (g.O.Sink.told c.loop-place.output).held (g.O.Sink.told c.put_service.new.output).held
    (joined (map line moved)) (line (moved_seen c.at.result.now)) (joined (map line (drop (at + 1) moved)))
    (subst (λ (t : List ℕ). IsPutTo (g.O.Sink.told c.args.output.now).held (g.O.Sink.told c.loop-place.output).held (joined (map line moved)) t)
    (joined_more line moved at (moved_seen c.at.result.now) (omega (arith, count, within)) ∙ ap (λ (m : MovedFields). line m ++ joined (map line (drop (at + 1) moved))) is)
    c.loop-place.invariant.written)
    c.in_err-put_service.ensures.written)

pub returns-in_err-put_service-clause-flushed : goal.returns-in_err-put_service-clause-flushed
returns-in_err-put_service-clause-flushed g c =
    stays-trans (g.O.Sink.told c.args.output.now).flushed (g.O.Sink.told c.loop-place.output).flushed (g.O.Sink.told c.put_service.new.output).flushed c.loop-place.invariant.flushed c.in_err-put_service.ensures.flushed

pub returns-clause-written : goal.returns-clause-written
returns-clause-written g c =
    let count = length-map c.args.moved.now moved_seen in
    let len = c.len-place-end.ensures.read in
    all_put (g.O.Sink.told c.args.output.now).held (g.O.Sink.told c.loop-place.output).held (joined (map (moved_line (plan_fields c.args.plan.now) c.args.version) (map moved_seen c.args.moved.now)))
    (joined (map (moved_line (plan_fields c.args.plan.now) c.args.version) (drop c.loop-place.place (map moved_seen c.args.moved.now))))
    (joined_none (moved_line (plan_fields c.args.plan.now) c.args.version) (map moved_seen c.args.moved.now) c.loop-place.place (omega (arith, count, len))) c.loop-place.invariant.written
