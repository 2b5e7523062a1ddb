-- The exit status of the program.
use Rattle.std.specs.Prelude.{ℕ}
use Rattle.ipencap_engine.specs.declared.status.Status.{Status}
use Rattle.ipencap_engine.specs.declared.status.Status.TheVariants as status

-- the number that the program ends with, by the status of its run
abbrev pub exit_number : Status → ℕ
exit_number status.Done = 0
exit_number status.Usage = 2
exit_number status.Settings = 3
exit_number status.Capture = 4
exit_number status.ShelfFault = 5
exit_number status.SourceFault = 6
exit_number status.SinkFault = 7
exit_number status.RackFault = 8
exit_number status.OutOfMemory = 9
exit_number status.TooLong = 10
