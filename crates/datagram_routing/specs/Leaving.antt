-- What the answer of a call that sends a stream says of its sink.
use Rattle.std.specs.Prelude.{◌≡◌, ◌≤◌, Result, IsErrOf}
use Rattle.wire_spec.specs.Causes.{Rose}
use Rattle.wire_spec.specs.Content.{Stays}
use Rattle.ipe_io.specs.Told.{OutputTold}
use Rattle.datagram_routing.specs.declared.faults.MuxFault.{MuxFault}
use Rattle.datagram_routing.specs.declared.faults.MuxFault.TheVariants as fault

-- how a call that sends leaves its sink; `Unchanged` says that the sink is as it was
pub record LeavesSink {T : Type 0} (result : Result T MuxFault) (sink now : OutputTold) (Unchanged : Type 0) : Type 0 where
  -- the sink failed exactly where the answer says so, and its count never falls
  pub rose : IsErrOf result fault.Sink → Rose sink.faults now.faults
  pub kept : ¬ IsErrOf result fault.Sink → now.faults ≡ sink.faults
  pub later : sink.faults ≤ now.faults
  -- out of memory, nothing was done to it
  pub memory : IsErrOf result fault.OutOfMemory → Unchanged
  -- nothing more is flushed
  pub flushed : Stays sink.flushed now.flushed
