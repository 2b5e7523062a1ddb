use Rattle.std.proofs.Common.{◌≡◌, List, [], ◌++◌, ℕ, length, take, drop, sym, subst, arith}
use Rattle.std.proofs.lemmas.List.{take_at}
use Rattle.fec_frame.specs.Stands.{IsOf, TellsKnown}
use Rattle.fec_frame.proofs.table.Table.over.Goals as goal

pub returns-clause-stands : goal.returns-clause-stands
returns-clause-stands g c =
    let same : take c.args.marks.len (c.clear-state.new.marks ++ drop (length c.clear-state.new.marks) c.args.marks.items) ≡ c.clear-state.new.marks =
    take_at c.clear-state.new.marks (drop (length c.clear-state.new.marks) c.args.marks.items) c.args.marks.len (omega arith) in
    subst (λ (l : List ℕ). IsOf c.from-count.result c.args.bytes.items l c.clear-state.result []) (sym same)
    (c.clear-state.ensures.stands c.args.bytes.items)

pub invariant_of-result : goal.invariant_of-result
invariant_of-result g c =
    let same : take c.args.marks.len (c.clear-state.new.marks ++ drop (length c.clear-state.new.marks) c.args.marks.items) ≡ c.clear-state.new.marks =
    take_at c.clear-state.new.marks (drop (length c.clear-state.new.marks) c.args.marks.items) c.args.marks.len (omega arith) in (
      omega (arith, c.from-count.ensures),
      omega (arith, c.from-count.ensures),
      omega (arith, c.from-count.ensures),
      omega (arith, c.from-count.ensures, c.requires.rows),
      omega (arith, c.from-count.ensures, c.requires.rows),
      subst (λ (l : List ℕ). TellsKnown c.from-count.result c.args.bytes.items l c.clear-state.result) (sym same) (c.clear-state.ensures.told c.args.bytes.items),
    )
