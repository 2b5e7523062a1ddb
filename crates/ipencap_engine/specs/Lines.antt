-- The line that a run reports.
use Rattle.std.specs.Prelude.{◌≡◌, ℕ, true, List, []}
use Rattle.pcap_file.specs.Reader.{is_cut}
use Rattle.pcap_file.specs.declared.faults.CaptureFault.{CaptureFault}
use Rattle.settings_load.specs.Settings.{Refusal, too_long}
use Rattle.settings_load.specs.Lines.{refusal_line}
use Rattle.send_command.specs.Sending.{ShowsFault}
use Rattle.send_command.specs.Lines.{tally_line, fault_line}
use Rattle.send_command.specs.declared.ends.Tally.{Tally}
use Rattle.ipencap_engine.specs.Statuses.{status_line}
use Rattle.ipencap_engine.specs.World.{World}
use Rattle.capture_intake.specs.Wanted.{is_ethernet}
use Rattle.capture_intake.specs.Wanted.{ShowsFault as ShowsFaultIn}
use Rattle.bridge_command.specs.Lines.{bridge_tally_line}
use Rattle.bridge_command.specs.declared.ends.BridgeTally.{BridgeTally}
use Rattle.ipencap_engine.specs.Jobs.{Job, Intake, no_input, a_capture, a_recording, a_relayed, an_ethernet_capture, an_ethernet_recording, row, TellsSettings}
use Rattle.ipencap_engine.specs.Settings.{IsRefusalOf}
use Rattle.ipencap_engine.specs.Reads.{TakesCapture}
use Rattle.ipencap_engine.specs.declared.status.Status.{Status}
use Rattle.ipencap_engine.specs.declared.status.Status.TheVariants as status

-- the line of a job that is done: that of a send, a bridge and a relay has numbers
abbrev pub IsDoneLine : Intake → List ℕ → Type 0
IsDoneLine no_input line = line ≡ []
IsDoneLine a_capture line = (tally : Tally) × (line ≡ tally_line tally)
IsDoneLine a_recording line = line ≡ []
IsDoneLine a_relayed line = (tally : Tally) × (line ≡ tally_line tally)
IsDoneLine an_ethernet_capture line = (tally : BridgeTally) × (line ≡ bridge_tally_line tally)
IsDoneLine (an_ethernet_recording carrier) line = line ≡ []

-- the line of refused settings says why the first file of them is refused that is; of one that the shelf does not know, that it is too long
pub record IsRefusalLine (job : Job) (after : World) (line : List ℕ) : Type 0 where
  pub refusal : Refusal
  pub is : (bytes : List ℕ) → TellsSettings job after.shelf bytes → IsRefusalOf job after.shelf bytes refusal
  pub unknown : ((bytes : List ℕ) → TellsSettings job after.shelf bytes → ⊥) → refusal ≡ too_long
  pub line_is : line ≡ refusal_line refusal

-- the bytes of a capture, of datagrams or of Ethernet frames, show this fault at this record
abbrev pub ShowsFaultOf : Intake → List ℕ → CaptureFault → ℕ → Type 0
ShowsFaultOf an_ethernet_capture bytes fault place = ShowsFaultIn is_ethernet bytes fault place
ShowsFaultOf a_capture bytes fault place = ShowsFault bytes fault place
ShowsFaultOf no_input bytes fault place = ⊥
ShowsFaultOf a_recording bytes fault place = ⊥
ShowsFaultOf a_relayed bytes fault place = ⊥
ShowsFaultOf (an_ethernet_recording carrier) bytes fault place = ⊥

-- the line of a capture's fault, which the bytes show that were read, and the record that has it; a capture that is cut was read to its end
pub record IsFaultLine (intake : Intake) (before after : World) (line : List ℕ) : Type 0 where
  pub fault : CaptureFault
  pub place : ℕ
  pub line_is : line ≡ fault_line fault place
  pub shown : TakesCapture before.input after.input (λ bytes. ShowsFaultOf intake bytes fault place)
  pub cut : is_cut fault ≡ true → after.input.ended ≡ true

-- the line of a status
abbrev pub IsLine : Job → Status → List ℕ → World → World → Type 0
IsLine job status.Done line before after = IsDoneLine (row job).intake line
IsLine job status.Settings line before after = IsRefusalLine job after line
IsLine job status.Capture line before after = IsFaultLine (row job).intake before after line
IsLine job end line before after = line ≡ status_line end
