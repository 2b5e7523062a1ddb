-- The fault of a search, where that of a reading came.
use Rattle.recording_reader.specs.declared.fault.ReadFault.{ReadFault}
use Rattle.recording_reader.specs.declared.fault.ReadFault.TheVariants as read_fault
use Rattle.find_command.specs.declared.fault.FindFault.{FindFault}
use Rattle.find_command.specs.declared.fault.FindFault.TheVariants as fault

-- what takes the records stops out of memory alone
abbrev pub fault_of_reading : ReadFault → FindFault
fault_of_reading read_fault.Source = fault.Source
fault_of_reading read_fault.TooLong = fault.TooLong
fault_of_reading read_fault.Taker = fault.OutOfMemory
