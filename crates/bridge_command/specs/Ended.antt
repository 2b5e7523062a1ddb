-- The end of a bridge, by what became of its writing and the fault of its capture.
use Rattle.std.specs.Prelude.{Option, Some, None, Result, Ok, Err, ⊤}
use Rattle.capture_intake.specs.declared.faults.PlacedFault.{PlacedFault}
use Rattle.capture_intake.specs.declared.ends.CaptureEnd.{CaptureEnd}
use Rattle.capture_intake.specs.declared.ends.CaptureEnd.TheVariants as ends
use Rattle.bridge_command.specs.declared.pieces.WriteFault.{WriteFault}
use Rattle.bridge_command.specs.declared.pieces.WriteFault.TheVariants as fault
use Rattle.bridge_command.specs.declared.ends.BridgeTally.{BridgeTally}

-- once all is written
abbrev pub end_at : Option PlacedFault → BridgeTally → CaptureEnd BridgeTally
end_at None tally = ends.Done tally
end_at (Some found) tally = ends.Capture found.fault found.place

abbrev pub end_by : Result ⊤ WriteFault → Option PlacedFault → BridgeTally → CaptureEnd BridgeTally
end_by (Ok done) found tally = end_at found tally
end_by (Err fault.Sink) found tally = ends.SinkFault
end_by (Err fault.OutOfMemory) found tally = ends.OutOfMemory
