-- The lines that are told of a send. Profile: their texts.
use Rattle.std.specs.Prelude.{ℕ, List, [], ◌∷◌, ◌++◌, codes, decimal}
use Rattle.pcap_file.specs.declared.faults.CaptureFault.{CaptureFault}
use Rattle.pcap_file.specs.declared.faults.CaptureFault.TheVariants as fault
use Rattle.send_command.specs.declared.ends.Tally.{Tally}

-- the line of a send: what became of the records
unfoldable pub tally_line : Tally → List ℕ
tally_line tally =
    codes "ipencap: offered " ++ decimal tally.offered
    ++ codes ", not IP " ++ decimal tally.not_ip
    ++ codes ", unrouted " ++ decimal tally.unrouted
    ++ codes ", too long " ++ decimal tally.too_long
    ++ 10 ∷ []

-- the number of a fault
abbrev pub number_of : CaptureFault → ℕ
number_of fault.Empty = 1
number_of fault.Magic = 2
number_of fault.Version = 3
number_of fault.Link = 4
number_of fault.CutHead = 5
number_of fault.CutRecord = 6
number_of fault.RecordTooLong = 7
number_of fault.TooMany = 8
number_of fault.TooLong = 9

-- the line of a capture's fault, and of the record that has it
unfoldable pub fault_line : CaptureFault → ℕ → List ℕ
fault_line found place = codes "ipencap: capture " ++ decimal (number_of found) ++ codes " at record " ++ decimal place ++ 10 ∷ []
