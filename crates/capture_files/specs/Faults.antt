-- The fault of a reception that a fault below becomes, and whom it blames.
use Rattle.std.specs.Prelude.{◌≡◌, ℕ, Result, IsErrOf}
use Rattle.wire_spec.specs.Causes.{Rose}
use Rattle.ipe_io.specs.declared.faults.AddFault.{AddFault}
use Rattle.recording_reader.specs.declared.fault.ReadFault.{ReadFault}
use Rattle.recording_reader.specs.declared.fault.ReadFault.TheVariants as read_fault
use Rattle.ipe_io.specs.declared.faults.AddFault.TheVariants as add_fault
use Rattle.capture_files.specs.declared.faults.ReceiveFault.{ReceiveFault}
use Rattle.capture_files.specs.declared.faults.ReceiveFault.TheVariants as fault

-- where a recording could not be read, or the files could not take what it delivers
abbrev pub fault_of_reading : ReadFault → ReceiveFault
fault_of_reading read_fault.Source = fault.Source
fault_of_reading read_fault.TooLong = fault.TooLong
fault_of_reading read_fault.Taker = fault.Rack

-- where a file could not be added
abbrev pub fault_of_adding : AddFault → ReceiveFault
fault_of_adding add_fault.Failed = fault.Rack
fault_of_adding add_fault.OutOfMemory = fault.OutOfMemory

-- a counter of faults: it rose where the answer names its object, and otherwise stayed
pub record Blames {T : Type 0} (result : Result T ReceiveFault) (own : ReceiveFault) (before now : ℕ) : Type 0 where
  pub rose : IsErrOf result own → Rose before now
  pub kept : ¬ IsErrOf result own → now ≡ before
