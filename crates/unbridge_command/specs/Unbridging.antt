-- What `unbridge` ensures, by its answer. Its pieces are those of a carrier: transport packets for a PID, baseband frames for an ISI; its
-- file is bridge.pcap, a capture of Ethernet frames. An input or a rack that tells no content has None, and then what is said of it holds.
use Rattle.std.specs.Prelude.{◌≡◌, ℕ, ◌+◌, ◌≤◌, ◌*◌, ◌<◌, Bool, true, false, List, [], ◌∷◌, ◌++◌, length, take, codes, Option, Result, Ok, Err, ⊤}
use Rattle.std.specs.Io.KnownBytes.{IsAtEnd}
use Rattle.wire_spec.specs.Causes.{raised}
use Rattle.wire_spec.specs.Content.{File, AddsFile, Stays}
use Rattle.ipe_io.specs.Told.{InputTold, RackTold}
use Rattle.pcap_file.specs.Capture.{ethernet_head, ethernet_capture, capture_record}
use Rattle.bridge_spec.specs.Frames.{BridgeCarrier, size_of_piece, received_ethernet_frames}
use Rattle.capture_files.specs.Files.{file_with, AddsPartOf}
use Rattle.recording_reader.specs.Reading.{most_pieces}
use Rattle.recording_reader.specs.Taken.{HasRead, TakesAllOf, TakesFrontOf, TakesMostOf}
use Rattle.capture_files.specs.Faults.{Blames}
use Rattle.capture_files.specs.declared.faults.ReceiveFault.{ReceiveFault}
use Rattle.capture_files.specs.declared.faults.ReceiveFault.TheVariants as fault

-- The file.

-- the name of the file, before ".pcap"
abbrev pub bridge_name : List ℕ
bridge_name = codes "bridge"

-- the capture of the Ethernet frames that pieces give
abbrev pub bridge_capture : BridgeCarrier → List (List ℕ) → List ℕ
bridge_capture carrier pieces = ethernet_capture (received_ethernet_frames carrier pieces)

-- bridge.pcap was added with a text, and all of this is flushed or nothing
abbrev pub AddsBridge : Bool → List ℕ → Option (List File) → Option (List File) → Type 0
AddsBridge is_flushed text old new = AddsFile old new (file_with is_flushed bridge_name text)

-- How it ends.

-- the input was read to its end, and the file is the capture of all that it gives, flushed
pub record EndsWhole (carrier : BridgeCarrier) (left now : Option (List ℕ)) (old new : Option (List File)) : Type 0 where
  pub pieces : List (List ℕ)
  pub tail : List ℕ
  pub read : HasRead (size_of_piece carrier) left now pieces tail
  pub fewer : length pieces < most_pieces
  pub at_end : IsAtEnd now
  pub file : AddsBridge true (bridge_capture carrier pieces) old new

-- the input could not be read on: fewer pieces than the most were read, and less than one after them; the file is the capture of what
-- these give, and nothing is flushed
pub record EndsFront (carrier : BridgeCarrier) (left now : Option (List ℕ)) (old new : Option (List File)) : Type 0 where
  pub pieces : List (List ℕ)
  pub behind : List ℕ
  pub read : HasRead (size_of_piece carrier) left now pieces behind
  pub fewer : length pieces < most_pieces
  pub file : AddsBridge false (bridge_capture carrier pieces) old new

-- the most pieces were read, and nothing after them; the file is the capture of what they give, and nothing is flushed
pub record EndsAtLimit (carrier : BridgeCarrier) (left now : Option (List ℕ)) (old new : Option (List File)) : Type 0 where
  pub pieces : List (List ℕ)
  pub read : HasRead (size_of_piece carrier) left now pieces []
  pub limit : length pieces ≡ most_pieces
  pub file : AddsBridge false (bridge_capture carrier pieces) old new

-- the rack stopped at the head of the file: nothing was read, and no file was added, or it has less than its head
pub record StopsInHead (left now : Option (List ℕ)) (old new : Option (List File)) : Type 0 where
  pub unread : now ≡ left
  pub file : AddsPartOf ethernet_head bridge_name old new

-- the rack stopped at a frame that the last piece gives: the file has the frames before it, and of its capture record less than all;
-- nothing is flushed
pub record StopsInFrame (carrier : BridgeCarrier) (left now : Option (List ℕ)) (old new : Option (List File)) : Type 0 where
  pub pieces : List (List ℕ)
  pub piece : List ℕ
  pub read : HasRead (size_of_piece carrier) left now (pieces ++ piece ∷ []) []
  pub fewer : length pieces < most_pieces
  pub front : List (List ℕ)
  pub frame : List ℕ
  pub rest : List (List ℕ)
  pub frames : received_ethernet_frames carrier (pieces ++ piece ∷ []) ≡ (received_ethernet_frames carrier pieces ++ front) ++ frame ∷ rest
  pub count : ℕ
  pub less : count < length (capture_record frame)
  pub file : AddsBridge false (ethernet_capture (received_ethernet_frames carrier pieces ++ front) ++ take count (capture_record frame)) old new

-- the rack stopped at the flush: the input was read to its end, and the file is the capture of all that it gives, unflushed
pub record StopsInFlush (carrier : BridgeCarrier) (left now : Option (List ℕ)) (old new : Option (List File)) : Type 0 where
  pub pieces : List (List ℕ)
  pub tail : List ℕ
  pub read : HasRead (size_of_piece carrier) left now pieces tail
  pub fewer : length pieces < most_pieces
  pub at_end : IsAtEnd now
  pub file : AddsBridge false (bridge_capture carrier pieces) old new

-- the file could not be added, written or flushed
pub data EndsInFile (carrier : BridgeCarrier) (left now : Option (List ℕ)) (old new : Option (List File)) : Type 0 where
  in_head : StopsInHead left now old new → EndsInFile carrier left now old new
  in_frame : StopsInFrame carrier left now old new → EndsInFile carrier left now old new
  in_flush : StopsInFlush carrier left now old new → EndsInFile carrier left now old new

-- The whole.

-- by the answer; `Unread` says that the input is as it was
abbrev pub UnbridgeEnds : Result ⊤ ReceiveFault → BridgeCarrier → InputTold → InputTold → RackTold → RackTold → (Unread : Type 0) → Type 0
UnbridgeEnds (Ok done) carrier input now rack now_rack Unread =
    EndsWhole carrier input.left now.left rack.files now_rack.files × TakesAllOf (size_of_piece carrier) input now × (now_rack.count ≡ rack.count + 1)
UnbridgeEnds (Err fault.Source) carrier input now rack now_rack Unread =
    EndsFront carrier input.left now.left rack.files now_rack.files × TakesFrontOf (size_of_piece carrier) input now × (now_rack.count ≡ rack.count + 1)
UnbridgeEnds (Err fault.TooLong) carrier input now rack now_rack Unread =
    EndsAtLimit carrier input.left now.left rack.files now_rack.files × (now.taken ≡ raised input.taken (size_of_piece carrier * most_pieces))
    × (now_rack.count ≡ rack.count + 1)
UnbridgeEnds (Err fault.Rack) carrier input now rack now_rack Unread =
    EndsInFile carrier input.left now.left rack.files now_rack.files × TakesMostOf (size_of_piece carrier) input now × (now_rack.count ≤ rack.count + 1)
UnbridgeEnds (Err fault.OutOfMemory) carrier input now rack now_rack Unread = Unread × (now_rack.count ≡ rack.count) × Stays rack.files now_rack.files
UnbridgeEnds (Err fault.Sink) carrier input now rack now_rack Unread = ⊥

-- A recording was received into bridge.pcap: how it ended, by the answer; and the count of faults of the input rose exactly at Source, that
-- of the rack exactly at Rack.
pub record Unbridges (result : Result ⊤ ReceiveFault) (carrier : BridgeCarrier) (input now : InputTold) (rack now_rack : RackTold) (Unread : Type 0) : Type 0 where
  pub ends : UnbridgeEnds result carrier input now rack now_rack Unread
  pub input_faults : Blames result fault.Source input.faults now.faults
  pub rack_faults : Blames result fault.Rack rack.faults now_rack.faults
