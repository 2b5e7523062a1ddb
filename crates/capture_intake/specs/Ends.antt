-- The ends of a command that reads a capture and writes a stream of it.
use Rattle.std.specs.Prelude.{◌≡◌, ℕ, Bool, true, false, List, ⊤}
use Rattle.ipe_io.specs.Told.{InputTold}
use Rattle.pcap_file.specs.Reader.{IsReadAhead, Takes}
use Rattle.pcap_file.specs.declared.captured.LinkType.{LinkType}
use Rattle.pcap_file.specs.declared.faults.CaptureFault.{CaptureFault}
use Rattle.capture_intake.specs.Wanted.{ShowsFault, ShowsNoFault}
use Rattle.capture_intake.specs.declared.ends.CaptureEnd.{CaptureEnd}
use Rattle.capture_intake.specs.declared.ends.CaptureEnd.TheVariants as ends

-- all was read and written
abbrev pub is_done : {T : Type 0} → CaptureEnd T → Bool
is_done (ends.Done tally) = true
is_done (ends.Capture fault place) = false
is_done ends.SinkFault = false
is_done ends.SourceFault = false
is_done ends.OutOfMemory = false

-- a whole stream was written
abbrev pub is_whole : {T : Type 0} → CaptureEnd T → Bool
is_whole (ends.Done tally) = true
is_whole (ends.Capture fault place) = true
is_whole ends.SinkFault = false
is_whole ends.SourceFault = false
is_whole ends.OutOfMemory = false

-- writing was begun
abbrev pub is_begun : {T : Type 0} → CaptureEnd T → Bool
is_begun (ends.Done tally) = true
is_begun (ends.Capture fault place) = true
is_begun ends.SinkFault = true
is_begun ends.SourceFault = false
is_begun ends.OutOfMemory = false

-- what holds of the capture's fault, where the end has one
abbrev pub OnCapture : {T : Type 0} → CaptureEnd T → (CaptureFault → ℕ → Type 0) → Type 0
OnCapture (ends.Done tally) P = ⊤
OnCapture (ends.Capture fault place) P = P fault place
OnCapture ends.SinkFault P = ⊤
OnCapture ends.SourceFault P = ⊤
OnCapture ends.OutOfMemory P = ⊤

-- what was read of the input, and what that shows: at a fault of the capture that fault, and at a fault of the input none, or none but that
-- the bytes are cut. After the record that was read last no more was read than a reader holds
pub record Reads {T : Type 0} (wants : LinkType → Bool) (end : CaptureEnd T) (old new : InputTold) : Type 0 where
  pub bytes : List ℕ
  pub takes : Takes old new bytes
  pub ahead : IsReadAhead bytes
  pub fault : OnCapture end (λ fault place. ShowsFault wants bytes fault place)
  pub source : end ≡ ends.SourceFault → ShowsNoFault wants bytes
