use Rattle.std.proofs.Common.{ℕ, List, [], ◌∷◌, ◌++◌, map, take, codes, ◌∙◌, subst}
use Rattle.std.proofs.lemmas.Result.{err_from_is_err_and}
use Rattle.std.specs.Io.KnownBytes.{Appends}
use Rattle.wire_spec.specs.Content.{Puts}
use Rattle.wire_spec.specs.Lists.{joined}
use Rattle.plan.specs.Parts.{change_seen}
use Rattle.plan.specs.PlanView.{plan_fields}
use Rattle.settings_load.specs.Lines.{moved_line}
use Rattle.settings_load.proofs.Texts.{first_part, puts_both}
use Rattle.settings_load.proofs.list.put_change.Goals as goal

pub returns-clause-written : goal.returns-clause-written
returns-clause-written g c =
    let lines : List ℕ = joined (map (moved_line (plan_fields c.args.plan.now) c.args.version) (change_seen c.args.change.now).moved) in
    subst (λ (at : List ℕ). Puts c.put_moved.result (g.O.Sink.told c.args.output.now).held (g.O.Sink.told c.put_moved.new.output).held ((codes "change " ++ at ++ 10 ∷ []) ++ lines))
    (c.as_bytes.ensures.value ∙ c.format-at.ensures.text)
    (puts_both c.put_moved.result (g.O.Sink.told c.args.output.now).held (g.O.Sink.told c.put_pieces.new.sink).held (g.O.Sink.told c.put_moved.new.output).held
    (codes "change " ++ c.as_bytes.result.now ++ 10 ∷ []) lines c.in_ok-put_pieces.ensures.written c.put_moved.ensures.written)

pub returns-in_err-put_pieces-clause-written : goal.returns-in_err-put_pieces-clause-written
returns-in_err-put_pieces-clause-written g c =
    let lines : List ℕ = joined (map (moved_line (plan_fields c.args.plan.now) c.args.version) (change_seen c.args.change.now).moved) in
    let failed = err_from_is_err_and c.from_residual.result c.from_residual.ensures.1 in
    rw failed.1 (subst (λ (at : List ℕ). (n : ℕ) × Appends (g.O.Sink.told c.args.output.now).held (g.O.Sink.told c.put_pieces.new.sink).held (take n ((codes "change " ++ at ++ 10 ∷ []) ++ lines)))
    (c.as_bytes.ensures.value ∙ c.format-at.ensures.text)
    (first_part (g.O.Sink.told c.args.output.now).held (g.O.Sink.told c.put_pieces.new.sink).held (codes "change " ++ c.as_bytes.result.now ++ 10 ∷ []) lines c.in_err-put_pieces.ensures.written))
