use Rattle.std.proofs.Common.{◌∙◌, sym, ap, arith}
use Rattle.ipe_io.proofs.MemShelves.{others_later}
use Rattle.ipe_io.proofs.mem_shelf.MemShelf.fail.Goals as goal
use Rattle.ipe_io.proofs.mem_shelf.MemShelf.fail.Goals.{in-Some+else-has_name-2, in_default}

pub returns-clause-later : goal.returns-clause-later
returns-clause-later c = λ other.
    let seen = c.self.view_is in
    let now = c.match-self.self-inside in
    elim c.match-self.branch [
      | in-Some+else-has_name-2 w ↦
          others_later c.args.self.now now.first now.second c.saturating_add-self-inside.result now.calls other
          (ap (λ s. s.first) (sym seen) ∙ ap (λ s. s.first) (sym w.self-inside-is))
          (ap (λ s. s.second) (sym seen) ∙ w.in-Some.is ∙ ap (λ s. s.second) (sym w.self-inside-is))
          (omega (arith, ap (λ s. s.others) seen, ap (λ s. s.others) w.self-inside-is, c.saturating_add-self-inside.ensures, c.saturating_add-self-inside.type_inv))
      | in_default w ↦
          others_later c.args.self.now now.first now.second c.saturating_add-self-inside.result now.calls other
          (ap (λ s. s.first) (sym seen) ∙ ap (λ s. s.first) (sym w.self-inside-is))
          (ap (λ s. s.second) (sym seen) ∙ ap (λ s. s.second) (sym w.self-inside-is))
          (omega (arith, ap (λ s. s.others) seen, ap (λ s. s.others) w.self-inside-is, c.saturating_add-self-inside.ensures, c.saturating_add-self-inside.type_inv))
    ]
