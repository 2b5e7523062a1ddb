use Rattle.std.proofs.Common.{rules, arith, ℕ, List, ◌≡◌, ◌-◌, ◌∙◌, ap, get_or, length, refl, replicate}
use Rattle.std.proofs.lemmas.List.{get_or-replicate}
use Rattle.rs_erasure.proofs.Changes.{part_changed}
use Rattle.rs_erasure.proofs.columns.clear_column.Goals as goal

pub returns : goal.returns
returns c =
    let r = c.args.run in
    let zeros : c.fill.new.self ≡ replicate (length c.fill.new.self) 0 = c.fill.ensures.after (λ y e. e) ∙ ap (λ n. replicate n 0) (search rules) in
    let long : length c.fill.new.self ≡ r.to - r.from = omega arith in
    part_changed r.rows r.from r.to c.args.column _ _ (λ i. 0) c.args.buffer.now c.fill.new.self c.args.run.order c.args.run.within c.requires.room refl (omega arith) (omega arith)
    (λ i lt. ap (λ (l : List ℕ). get_or l i 0) zeros ∙ get_or-replicate (length c.fill.new.self) i 0 0 (omega arith))
