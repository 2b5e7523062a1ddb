-- What a bridge makes of a capture of Ethernet frames, and what stands after each of its ends.
use Rattle.std.specs.Prelude.{◌≡◌, ◌≢◌, ◌⊎◌, ℕ, true, false, List, take, Option, Some, None, ⊤}
use Rattle.std.specs.Io.KnownBytes.{Appends}
use Rattle.wire_spec.specs.Causes.{Rose}
use Rattle.wire_spec.specs.Content.{Stays}
use Rattle.wire_spec.specs.Lists.{joined}
use Rattle.ipe_io.specs.Told.{InputTold, OutputTold}
use Rattle.ipe_io.specs.Counts.{IsFlushed}
use Rattle.pcap_file.specs.Reader.{is_cut}
use Rattle.pcap_file.specs.declared.faults.CaptureFault.{CaptureFault}
use Rattle.bridge_spec.specs.Frames.{BridgeCarrier}
use Rattle.bridge_spec.specs.Sending.{frames_to_carry, bridged_pieces}
use Rattle.capture_intake.specs.Wanted.{TellsWanted, place_in_wanted, is_ethernet}
use Rattle.capture_intake.specs.Ends.{OnCapture, Reads, is_done, is_whole, is_begun}
use Rattle.capture_intake.specs.declared.ends.CaptureEnd.{CaptureEnd}
use Rattle.capture_intake.specs.declared.ends.CaptureEnd.TheVariants as ends
use Rattle.bridge_command.specs.Tally.{IsBridgeTally}
use Rattle.bridge_command.specs.declared.ends.BridgeTally.{BridgeTally}

-- what bytes tell of captured Ethernet frames: these and the fault after them, or none; of a capture of IP datagrams no frame, and the fault
-- Link of its head
abbrev pub TellsEthernet : List ℕ → List (List ℕ) → Option CaptureFault → Type 0
TellsEthernet bytes captured fault = TellsWanted is_ethernet bytes captured fault

-- the number of the record that has the fault, from 1; 0 for a fault of the head
abbrev pub place_in_ethernet : List ℕ → List (List ℕ) → ℕ
place_in_ethernet bytes captured = place_in_wanted is_ethernet bytes captured

-- the stream of captured frames: of those that there is room for
abbrev pub bridged_stream : BridgeCarrier → List (List ℕ) → List ℕ
bridged_stream carrier captured = joined (bridged_pieces carrier (frames_to_carry carrier captured))

-- a capture without fault: all of its stream was written, and these are the numbers
pub record BridgesAll (carrier : BridgeCarrier) (bytes : List ℕ) (tally : BridgeTally) (old new : Option (List ℕ)) : Type 0 where
  pub captured : List (List ℕ)
  pub told : TellsEthernet bytes captured None
  pub written : Appends old new (bridged_stream carrier captured)
  pub numbers : IsBridgeTally carrier captured tally

-- a capture with this fault at this place: all of the stream of the records before it was written
pub record BridgesToFault (carrier : BridgeCarrier) (bytes : List ℕ) (fault : CaptureFault) (place : ℕ) (old new : Option (List ℕ)) : Type 0 where
  pub captured : List (List ℕ)
  pub told : TellsEthernet bytes captured (Some fault)
  pub written : Appends old new (bridged_stream carrier captured)
  pub place_is : place ≡ place_in_ethernet bytes captured

-- a capture with or without fault: a front of its stream was written
pub record BridgesFront (carrier : BridgeCarrier) (bytes : List ℕ) (old new : Option (List ℕ)) : Type 0 where
  pub captured : List (List ℕ)
  pub fault : Option CaptureFault
  pub told : TellsEthernet bytes captured fault
  pub count : ℕ
  pub written : Appends old new (take count (bridged_stream carrier captured))

-- what stands in the output after each end; after the last two nothing was written
abbrev pub StandsBridged : BridgeCarrier → List ℕ → CaptureEnd BridgeTally → Option (List ℕ) → Option (List ℕ) → Type 0
StandsBridged carrier bytes (ends.Done tally) old new = BridgesAll carrier bytes tally old new
StandsBridged carrier bytes (ends.Capture fault place) old new = BridgesToFault carrier bytes fault place old new
StandsBridged carrier bytes ends.SinkFault old new = BridgesFront carrier bytes old new
StandsBridged carrier bytes ends.SourceFault old new = ⊤
StandsBridged carrier bytes ends.OutOfMemory old new = ⊤

-- A capture of Ethernet frames was read, and those that there is room for were written on a carrier.
pub record Bridges (carrier : BridgeCarrier) (result : CaptureEnd BridgeTally) (input now : InputTold) (output written : OutputTold) (Silent : Type 0) : Type 0 where
  -- what stands in the output, where the input tells its bytes
  pub stands : (bytes : List ℕ) → input.left ≡ Some bytes → StandsBridged carrier bytes result output.held written.held
  -- a whole stream is flushed, and at a fault of the output no more than before
  pub flushed : is_whole result ≡ true → IsFlushed written.held written.flushed
  pub unflushed : result ≡ ends.SinkFault → Stays output.flushed written.flushed
  -- where writing was not begun the output is as it was
  pub unchanged : is_begun result ≡ true ⊎ Silent
  -- what was read of the input: all of it, where the end is Done or a fault that comes only there, and not its end at a fault of the input
  pub reads : Reads is_ethernet result input now
  pub read : is_done result ≡ true → now.ended ≡ true
  pub cut : OnCapture result (λ fault place. is_cut fault ≡ true → now.ended ≡ true)
  pub goes_on : result ≡ ends.SourceFault → input.ended ≡ false → now.ended ≡ false
  -- it ends at a fault of the input or the output only where that was counted, and no other count changes
  pub source : result ≡ ends.SourceFault → Rose input.faults now.faults
  pub sink : result ≡ ends.SinkFault → Rose output.faults written.faults
  pub input_kept : result ≢ ends.SourceFault → now.faults ≡ input.faults
  pub output_kept : result ≢ ends.SinkFault → written.faults ≡ output.faults
