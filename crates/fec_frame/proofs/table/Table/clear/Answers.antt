use Rattle.std.proofs.Common.{◌≡◌, List, [], ◌++◌, ℕ, length, take, drop, sym, subst, arith}
use Rattle.std.proofs.lemmas.List.{take_at}
use Rattle.fec_frame.specs.Stands.{IsOf, TellsKnown}
use Rattle.fec_frame.proofs.table.Table.clear.Goals as goal

pub returns-clause-stands : goal.returns-clause-stands
returns-clause-stands g c =
    let same : take c.self.inside.marks.len (c.clear-self-inside.new.marks ++ drop (length c.clear-self-inside.new.marks) c.self.inside.marks.items) ≡ c.clear-self-inside.new.marks =
    take_at c.clear-self-inside.new.marks (drop (length c.clear-self-inside.new.marks) c.self.inside.marks.items) c.self.inside.marks.len (omega arith) in
    subst (λ (l : List ℕ). IsOf c.self.inside.rows c.self.inside.bytes.items l c.clear-self-inside.result []) (sym same)
    (c.clear-self-inside.ensures.stands c.self.inside.bytes.items)

pub invariant_of-self : goal.invariant_of-self
invariant_of-self g c =
    let same : take c.self.inside.marks.len (c.clear-self-inside.new.marks ++ drop (length c.clear-self-inside.new.marks) c.self.inside.marks.items) ≡ c.clear-self-inside.new.marks =
    take_at c.clear-self-inside.new.marks (drop (length c.clear-self-inside.new.marks) c.self.inside.marks.items) c.self.inside.marks.len (omega arith) in (
      c.self.invariant.0,
      omega arith,
      c.self.invariant.2,
      c.self.invariant.3,
      c.self.invariant.4,
      subst (λ (l : List ℕ). TellsKnown c.self.inside.rows c.self.inside.bytes.items l c.clear-self-inside.result) (sym same)
          (c.clear-self-inside.ensures.told c.self.inside.bytes.items),
    )
