use Rattle.std.proofs.Common.{List, ℕ, get_or, ap, sym, ◌∙◌}
use Rattle.std.specs.Prelude.{is_some}
use Rattle.fec_frame.specs.Marks.{is_known_mark}
use Rattle.fec_frame.specs.Stands.{TableState, table_byte}
use Rattle.fec_frame.proofs.Ended.{some_is}
use Rattle.fec_frame.proofs.table.Table.known.Goals as goal

pub returns : goal.returns
returns g c =
    c.is_known.ensures ∙ ap (λ (l : List ℕ). is_known_mark (get_or l c.args.at 0)) c.as_slice.ensures.value
    ∙ sym (some_is c.self.inside.bytes.items c.self.inside.marks.items c.args.at)
    ∙ ap (λ (t : TableState). is_some (table_byte t c.args.at)) c.self.view_is
