use Rattle.std.proofs.Common.{◌+◌, ◌*◌, ◌++◌, ◌∙◌, [], ◌∷◌, List, ℕ, cond, get_or, ap, ap₂, sym, length, arith}
use Rattle.fec_frame.specs.Marks.{is_known_mark}
use Rattle.fec_frame.proofs.Patterns.{unmarked_more, unmarked_none}
use Rattle.fec_frame.proofs.pattern.unknown_in.Goals as goal

pub loop-j-init : goal.loop-j-init
loop-j-init c = record {
  items = c.new-unknown.ensures ∙ sym (unmarked_none c.args.rows c.args.marks.now c.args.r);
  few = omega (arith, ap length c.new-unknown.ensures);
}

pub loop-j-preserved : goal.loop-j-preserved
loop-j-preserved c = record {
  items =
      c.add_unknown.ensures.items
      ∙ ap₂ (λ (l : List ℕ) (j : ℕ). l ++ cond (is_known_mark (get_or c.args.marks.now (j * c.args.rows + c.args.r) 0)) [] (c.loop-j.j ∷ [])) c.loop-j.invariant.items c.from.ensures
      ∙ sym (unmarked_more c.args.rows c.args.marks.now c.args.r c.loop-j.j);
  few = omega (arith, c.add_unknown.ensures.few, c.loop-j.invariant.few);
}
