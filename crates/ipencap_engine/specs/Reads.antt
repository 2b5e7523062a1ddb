-- How much of its input a run reads, whether the input tells its bytes or not.
use Rattle.std.specs.Prelude.{◌≡◌, ◌⊎◌, ℕ, ◌+◌, ◌*◌, ◌<◌, ◌≤◌, true, false, List, length, None, Some, ⊤}
use Rattle.wire_spec.specs.Causes.{raised}
use Rattle.pcap_file.specs.Told.{Tells}
use Rattle.pcap_file.specs.Reader.{Takes, IsReadAhead, ShowsNoFault}
use Rattle.capture_intake.specs.Wanted.{is_ethernet}
use Rattle.capture_intake.specs.Wanted.{ShowsNoFault as ShowsNoFaultIn}
use Rattle.bridge_command.specs.Bridging.{TellsEthernet}
use Rattle.plan_spec.specs.Plan.{PlanFields}
use Rattle.plan_spec.specs.Wholes.{is_whole_plan}
use Rattle.carrier_spec.specs.Stream.{piece_size}
use Rattle.ipe_io.specs.Told.{InputTold}
use Rattle.bridge_spec.specs.Frames.{BridgeCarrier, size_of_piece}
use Rattle.recording_reader.specs.Reading.{most_pieces as most_records}
use Rattle.recording_reader.specs.Taken.{TakesAllOf, TakesFrontOf, TakesMostOf}
use Rattle.ipencap_engine.specs.World.{World}
use Rattle.ipencap_engine.specs.Jobs.{Job, Intake, no_input, a_capture, a_recording, a_relayed, an_ethernet_capture, an_ethernet_recording, row, IsPlanOf}
use Rattle.ipencap_engine.specs.declared.status.Status.{Status}
use Rattle.ipencap_engine.specs.declared.status.Status.TheVariants as status

-- the bytes of so many records or frames of the job's plan were taken, told or not, as the bound says of them and of those that 2^32 have
pub record TakesPieces (job : Job) (before after : World) (bound : ℕ → ℕ → Type 0) : Type 0 where
  pub plan : PlanFields
  pub whole : is_whole_plan plan ≡ true
  pub is : (told : PlanFields) → IsPlanOf job after.shelf told → plan ≡ told
  pub count : ℕ
  pub is_bound : bound count (piece_size plan * most_records)
  pub taken : after.input.taken ≡ raised before.input.taken count

-- where the job adds files, the rack has one more for each service of this plan
abbrev pub AddsEach : Job → PlanFields → World → World → Type 0
AddsEach job plan before after = (row job).has_files ≡ true → after.rack.count ≡ before.rack.count + length plan.services

-- it has no more than those
abbrev pub AddsMost : Job → PlanFields → World → World → Type 0
AddsMost job plan before after = (row job).has_files ≡ true → after.rack.count ≤ before.rack.count + length plan.services

-- a recording was read to its end, and all files are there
pub record ReadsAll (job : Job) (before after : World) : Type 0 where
  pub ended : after.input.ended ≡ true
  pub takes : TakesPieces job before after (λ count most. count < most)
  pub files : AddsEach job takes.plan before after

-- an input that had not ended has not ended where it failed
abbrev pub GoesOn : InputTold → InputTold → Type 0
GoesOn before after = before.ended ≡ false → after.ended ≡ false

-- how much of a recording was read, by status: so many records or frames; where memory ran out of a job that adds files, nothing or all of it
abbrev pub ReadsRecording : Job → Status → World → World → Type 0
ReadsRecording job status.Done before after = ReadsAll job before after
ReadsRecording job status.SinkFault before after = ReadsAll job before after
ReadsRecording job status.SourceFault before after =
    (takes : TakesPieces job before after (λ count most. count < most)) × GoesOn before.input after.input × AddsEach job takes.plan before after
ReadsRecording job status.RackFault before after = (takes : TakesPieces job before after (λ count most. count ≤ most)) × AddsMost job takes.plan before after
ReadsRecording job status.TooLong before after = (takes : TakesPieces job before after (λ count most. count ≡ most)) × AddsEach job takes.plan before after
ReadsRecording job status.OutOfMemory before after = (row job).has_files ≡ true → (after.input ≡ before.input) ⊎ ReadsAll job before after
ReadsRecording job end before after = ⊤

-- of a relay: too many records, or too many datagrams or bytes of them
abbrev pub ReadsRelayed : Job → Status → World → World → Type 0
ReadsRelayed job status.TooLong before after = TakesPieces job before after (λ count most. count ≤ most)
ReadsRelayed job end before after = ReadsRecording job end before after

-- how much was read of pieces that carry Ethernet frames, for which there is no plan; once anything was, the rack has one file more
abbrev pub ReadsFrames : BridgeCarrier → Status → World → World → Type 0
ReadsFrames carrier status.Done before after = TakesAllOf (size_of_piece carrier) before.input after.input × (after.rack.count ≡ before.rack.count + 1)
ReadsFrames carrier status.SourceFault before after = TakesFrontOf (size_of_piece carrier) before.input after.input × (after.rack.count ≡ before.rack.count + 1)
ReadsFrames carrier status.RackFault before after = TakesMostOf (size_of_piece carrier) before.input after.input × (after.rack.count ≤ before.rack.count + 1)
ReadsFrames carrier status.TooLong before after = (after.input.taken ≡ raised before.input.taken (size_of_piece carrier * most_records)) × (after.rack.count ≡ before.rack.count + 1)
ReadsFrames carrier status.OutOfMemory before after = after.input ≡ before.input
ReadsFrames carrier end before after = ⊤

-- these bytes of a capture were taken, no more after its last record than a reader reads ahead, and so much holds of them
pub record TakesCapture (before after : InputTold) (holds : List ℕ → Type 0) : Type 0 where
  pub bytes : List ℕ
  pub takes : Takes before after bytes
  pub ahead : IsReadAhead bytes
  pub shows : holds bytes

-- bytes of a capture, of datagrams or of Ethernet frames, tell these records and no fault; and they show none, or none but that they are cut
abbrev pub TellsNone : Intake → List ℕ → List (List ℕ) → Type 0
TellsNone an_ethernet_capture bytes captured = TellsEthernet bytes captured None
TellsNone a_capture bytes captured = Tells bytes captured None
TellsNone no_input bytes captured = ⊥
TellsNone a_recording bytes captured = ⊥
TellsNone a_relayed bytes captured = ⊥
TellsNone (an_ethernet_recording carrier) bytes captured = ⊥

abbrev pub ShowsNone : Intake → List ℕ → Type 0
ShowsNone an_ethernet_capture bytes = ShowsNoFaultIn is_ethernet bytes
ShowsNone a_capture bytes = ShowsNoFault bytes
ShowsNone no_input bytes = ⊥
ShowsNone a_recording bytes = ⊥
ShowsNone a_relayed bytes = ⊥
ShowsNone (an_ethernet_recording carrier) bytes = ⊥

-- the told bytes of a capture have no fault
abbrev pub TellsNoFault : Intake → InputTold → Type 0
TellsNoFault intake input = (bytes : List ℕ) → input.left ≡ Some bytes → (captured : List (List ℕ)) × TellsNone intake bytes captured

-- how much of a capture was read, by status: at Done the told bytes have no fault; at SourceFault those that were read show none, or none but that they are
-- cut; at Capture the line has their fault
abbrev pub ReadsCapture : Intake → Status → World → World → Type 0
ReadsCapture intake status.Done before after = (after.input.ended ≡ true) × TakesCapture before.input after.input (λ bytes. ⊤) × TellsNoFault intake before.input
ReadsCapture intake status.SinkFault before after = TakesCapture before.input after.input (λ bytes. ⊤)
ReadsCapture intake status.SourceFault before after = GoesOn before.input after.input × TakesCapture before.input after.input (ShowsNone intake)
ReadsCapture intake end before after = ⊤

-- how much was read, by what the job reads and by status
abbrev pub Reads : Intake → Job → Status → World → World → Type 0
Reads no_input job end before after = ⊤
Reads a_capture job end before after = ReadsCapture a_capture end before after
Reads a_recording job end before after = ReadsRecording job end before after
Reads a_relayed job end before after = ReadsRelayed job end before after
Reads an_ethernet_capture job end before after = ReadsCapture an_ethernet_capture end before after
Reads (an_ethernet_recording carrier) job end before after = ReadsFrames carrier end before after
