-- What a send makes of a capture, and what stands after each of its ends.
use Rattle.std.specs.Prelude.{◌≡◌, ℕ, List, take, Option, Some, None, ⊤, All}
use Rattle.wire_spec.specs.Bytes.{AreBytes}
use Rattle.std.specs.Io.KnownBytes.{Appends}
use Rattle.wire_spec.specs.Lists.{joined}
use Rattle.ipe_io.specs.Told.{InputTold}
use Rattle.pcap_file.specs.Told.{Tells, place_of_fault}
use Rattle.pcap_file.specs.Reader.{Takes, ShowsNoFault, IsReadAhead}
use Rattle.pcap_file.specs.declared.faults.CaptureFault.{CaptureFault}
use Rattle.plan_spec.specs.Plan.{PlanFields}
use Rattle.plan_spec.specs.Offered.{offered_in}
use Rattle.carrier_spec.specs.Stream.{IsSentStream}
use Rattle.stream_law.specs.Captures.{given_by}
use Rattle.capture_intake.specs.Ends.{OnCapture}
use Rattle.capture_intake.specs.declared.ends.CaptureEnd.{CaptureEnd}
use Rattle.capture_intake.specs.declared.ends.CaptureEnd.TheVariants as ends
use Rattle.send_command.specs.Tally.{IsTally}
use Rattle.send_command.specs.declared.ends.Tally.{Tally}

-- the bytes tell these records of a capture, each of bytes, and this fault, or none, and that is the stream of what services take of the records, each in
-- the version of its record
pub record IsSendOf (plan : PlanFields) (bytes : List ℕ) (captured : List (List ℕ)) (fault : Option CaptureFault) (stream : List (List ℕ)) : Type 0 where
  pub told : Tells bytes captured fault
  pub of_bytes : All AreBytes captured
  pub stream_is : IsSentStream plan (offered_in plan (given_by bytes captured)) stream

-- a capture without fault: all of its stream was written, and these are the numbers
pub record SendsAll (plan : PlanFields) (bytes : List ℕ) (tally : Tally) (old new : Option (List ℕ)) : Type 0 where
  pub captured : List (List ℕ)
  pub stream : List (List ℕ)
  pub is : IsSendOf plan bytes captured None stream
  pub written : Appends old new (joined stream)
  pub numbers : IsTally plan (given_by bytes captured) tally

-- a capture with this fault at this place: all of the stream of the records before it was written
pub record SendsToFault (plan : PlanFields) (bytes : List ℕ) (fault : CaptureFault) (place : ℕ) (old new : Option (List ℕ)) : Type 0 where
  pub captured : List (List ℕ)
  pub stream : List (List ℕ)
  pub is : IsSendOf plan bytes captured (Some fault) stream
  pub written : Appends old new (joined stream)
  pub place_is : place ≡ place_of_fault bytes captured

-- a capture with or without fault: a front of its stream was written
pub record SendsFront (plan : PlanFields) (bytes : List ℕ) (old new : Option (List ℕ)) : Type 0 where
  pub captured : List (List ℕ)
  pub fault : Option CaptureFault
  pub stream : List (List ℕ)
  pub is : IsSendOf plan bytes captured fault stream
  pub count : ℕ
  pub written : Appends old new (take count (joined stream))

-- what stands in the output after each end; after the last two nothing was written
abbrev pub Sends : PlanFields → List ℕ → CaptureEnd Tally → Option (List ℕ) → Option (List ℕ) → Type 0
Sends plan bytes (ends.Done tally) old new = SendsAll plan bytes tally old new
Sends plan bytes (ends.Capture fault place) old new = SendsToFault plan bytes fault place old new
Sends plan bytes ends.SinkFault old new = SendsFront plan bytes old new
Sends plan bytes ends.SourceFault old new = ⊤
Sends plan bytes ends.OutOfMemory old new = ⊤

-- the bytes tell this fault of a capture, and it is that of the record with this number
pub record ShowsFault (bytes : List ℕ) (fault : CaptureFault) (place : ℕ) : Type 0 where
  pub captured : List (List ℕ)
  pub told : Tells bytes captured (Some fault)
  pub place_is : place ≡ place_of_fault bytes captured

-- what a send read of its input, and what that shows: at a fault of the capture that fault, and at a fault of the input none, or
-- none but that the bytes are cut. After the record that was read last no more was read than a reader holds
pub record Reads (end : CaptureEnd Tally) (old new : InputTold) : Type 0 where
  pub bytes : List ℕ
  pub takes : Takes old new bytes
  pub ahead : IsReadAhead bytes
  pub fault : OnCapture end (λ fault place. ShowsFault bytes fault place)
  pub source : end ≡ ends.SourceFault → ShowsNoFault bytes
