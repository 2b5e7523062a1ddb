use Rattle.std.proofs.Common.{◌≡◌, ◌*◌, ◌<◌, ℕ, true, get_or, subst}
use Rattle.fec_frame.specs.Marks.{is_known_mark}
use Rattle.fec_frame.specs.Stands.{TableState}
use Rattle.fec_frame.proofs.Told.{told_run}
use Rattle.fec_frame.proofs.table.Table.has_all_data.Goals as goal

pub returns : goal.returns
returns g c = λ yes.
    subst (λ (t : TableState). (place : ℕ) → place < 191 * t.rows → is_known_mark (get_or t.marks place 0) ≡ true) c.self.view_is
    (told_run c.self.inside.rows c.self.inside.bytes.items c.self.inside.marks.items c.self.inside.state c.self.invariant.5 (c.has_all_data.ensures.yes yes))
