use Rattle.std.proofs.Common.{◌≡◌, length}
use Rattle.ts_packet.specs.Fields.{fields_in}
use Rattle.unit_stream.specs.Joining.{steps_left}
use Rattle.unit_stream.specs.States.{FitsState, state_in}
use Rattle.unit_stream.specs.Telling.{Tells}
use Rattle.unit_stream.proofs.listening.tell_events.Given as goal

abbrev pub invariant-loop-state : goal.invariant-loop-state
invariant-loop-state g l = record {
  room : length l.buffer ≡ g.F.UnitForm.LONGEST;
  fits : FitsState g.F.UnitForm.form l.state l.buffer;
  tells : Tells g.F.UnitForm.form (fields_in l.packet) (state_in l.fn.state l.fn.buffer) (state_in l.state l.buffer) g.L.Listener.Hears l.fn.listener l.listener;
}

abbrev pub decreases-loop-state : goal.decreases-loop-state
decreases-loop-state g l = steps_left (length l.packet.payload.now) (state_in l.state l.buffer)
