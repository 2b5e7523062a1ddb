use Rattle.std.proofs.Common.{sym, subst}
use Rattle.unit_stream.specs.States.{event_in, rest_of, state_in}
use Rattle.unit_stream.specs.Telling.{Tells}
use Rattle.unit_stream.specs.declared.joining.State.{State}
use Rattle.unit_stream.proofs.Heard.{tells_end}
use Rattle.unit_stream.proofs.listening.tell_end.Goals as goal

pub returns-in-Ended-clause-tells : goal.returns-in-Ended-clause-tells
returns-in-Ended-clause-tells g c = λ packet.
    subst (λ (s : State). Tells g.F.UnitForm.form packet (state_in s c.args.buffer.now) (state_in c.after_end.result c.args.buffer.now) g.L.Listener.Hears c.args.listener.now c.hear.new.self)
    (sym c.in-Ended.is)
    (tells_end g.L.Listener.Hears g.F.UnitForm.form packet c.in-Ended.ended (rest_of c.in-Ended.rest) c.args.buffer.now (state_in c.after_end.result c.args.buffer.now) (event_in c.end_event.result)
    c.args.listener.now c.hear.new.self (c.end_event.ensures packet (rest_of c.in-Ended.rest)) (c.after_end.ensures.state c.args.buffer.now) c.hear.ensures.heard)
