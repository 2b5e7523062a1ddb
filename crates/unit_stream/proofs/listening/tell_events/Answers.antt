use Rattle.std.proofs.Common.{sym, subst}
use Rattle.ts_packet.specs.Fields.{fields_in}
use Rattle.unit_stream.specs.States.{state_in}
use Rattle.unit_stream.specs.Telling.{Tells}
use Rattle.unit_stream.specs.declared.joining.State.{State}
use Rattle.unit_stream.proofs.Heard.{tells_then, tells_all}
use Rattle.unit_stream.proofs.Views.{drained_unless_reading}
use Rattle.unit_stream.proofs.listening.tell_events.Goals as goal

pub loop-state-preserved : goal.loop-state-preserved
loop-state-preserved g c = record {
  room = c.tell_start-state.ensures.room;
  fits = c.tell_start-state.ensures.fits;
  tells =
      tells_then g.L.Listener.Hears g.F.UnitForm.form (fields_in c.args.packet.now)
      (state_in c.args.state c.args.buffer.now) (state_in c.loop-state.state c.loop-state.buffer) (state_in c.tell_start-state.result c.tell_start-state.new.buffer)
      c.args.listener.now c.loop-state.listener c.tell_start-state.new.listener c.loop-state.invariant.tells
      (subst (λ (s : State). Tells g.F.UnitForm.form (fields_in c.args.packet.now) (state_in s c.loop-state.buffer) (state_in c.tell_start-state.result c.tell_start-state.new.buffer) g.L.Listener.Hears c.loop-state.listener c.tell_start-state.new.listener)
      (sym c.in-Reading.is) c.tell_start-state.ensures.tells);
}

pub returns-clause-told : goal.returns-clause-told
returns-clause-told g c = λ packets before giving.
    tells_all g.L.Listener.Hears g.F.UnitForm.form (fields_in c.args.packet.now)
    (state_in c.args.state c.args.buffer.now) (state_in c.loop-state.state c.loop-state.buffer) c.args.listener.now c.loop-state.listener packets before c.loop-state.invariant.tells
    (drained_unless_reading c.loop-state.state c.loop-state.buffer (λ position is. c.in_default.not-Reading position is) c.loop-state.invariant.tells.past) giving

pub returns-clause-heard : goal.returns-clause-heard
returns-clause-heard g c = (c.loop-state.invariant.tells.events, c.loop-state.invariant.tells.heard)
