use Rattle.std.proofs.Common.{sym, subst}
use Rattle.fec_reception.specs.Reception.{FecReceptionState, IsOver}
use Rattle.fec_reception.proofs.Taken.{nothing_taken}
use Rattle.fec_reception.proofs.reception.FecReception.begin_anew.Goals as goal

pub returns : goal.returns
returns g c = record {
  received = λ timing rows pid over.
      nothing_taken timing rows pid c.new-self-inside.result c.forget.new.self c.begin_anew.new.self c.new-self-inside.ensures.none c.forget.ensures.stands
      (c.begin_anew.ensures.none timing rows (subst (λ (s : FecReceptionState). IsOver timing rows s.frames) (sym c.self.view_is) over))
      c.begin_anew.ensures.packets c.begin_anew.ensures.unread;
}
