-- What the file of an `unbridge` has of what a `bridge` put out of a capture of Ethernet frames.
use Rattle.std.specs.Prelude.{◌≡◌, ℕ, true, List, [], ◌∷◌, Option}
use Rattle.wire_spec.specs.Lists.{joined, IsCut}
use Rattle.wire_spec.specs.Content.{File}
use Rattle.ts_spec.specs.Recording.{plain, records_of}
use Rattle.pcap_file.specs.declared.faults.CaptureFault.{CaptureFault}
use Rattle.capture_files.specs.Files.{file_with}
use Rattle.bridge_spec.specs.Frames.{BridgeCarrier, on_pid, on_isi, size_of_piece, received_ethernet_frames}
use Rattle.bridge_spec.specs.Sending.{frames_to_carry, bridged_pieces}
use Rattle.bridge_spec.specs.Carried.{CarriesOnPid, CarriesOnIsi}
use Rattle.bridge_command.specs.Bridging.{TellsEthernet}
use Rattle.unbridge_command.specs.Unbridging.{bridge_name, bridge_capture}
use Rattle.ipencap_engine.specs.Laws.{DeliversFrames, DeliversIntactFrames}

-- the bytes are those of the pieces that a bridge writes of the captured Ethernet frames that it carries; after these the capture has this fault, or none
pub record AreBridgedBytes (carrier : BridgeCarrier) (capture bytes : List ℕ) : Type 0 where
  pub captured : List (List ℕ)
  pub fault : Option CaptureFault
  pub told : TellsEthernet capture captured fault
  pub bytes_are : bytes ≡ joined (bridged_pieces carrier (frames_to_carry carrier captured))

-- pieces carry these Ethernet frames, in order
abbrev pub CarriesOnCarrier : BridgeCarrier → (pieces frames : List (List ℕ)) → Type 0
CarriesOnCarrier (on_pid pid) pieces frames = CarriesOnPid pid (records_of plain pieces) frames
CarriesOnCarrier (on_isi isi) pieces frames = CarriesOnIsi isi pieces frames

-- What was sent carries the captured frames. The recording is cut into pieces, and the one file is the capture of the frames received of these: whatever errors go
-- undetected those that arrived intact; where none goes undetected nothing else but some that were sent; and of the very bytes that were sent all
pub record ArrivesBridged (carrier : BridgeCarrier) (capture bytes : List ℕ) (is : AreBridgedBytes carrier capture bytes)
    (recording : List ℕ) (files : List File) : Type 0 where
  pub cut : IsCut (size_of_piece carrier) bytes (bridged_pieces carrier (frames_to_carry carrier is.captured)) []
  pub carries : CarriesOnCarrier carrier (bridged_pieces carrier (frames_to_carry carrier is.captured)) (frames_to_carry carrier is.captured)
  pub pieces : List (List ℕ)
  pub tail : List ℕ
  pub cut_again : IsCut (size_of_piece carrier) recording pieces tail
  pub files_are : files ≡ file_with true bridge_name (bridge_capture carrier pieces) ∷ []
  pub intact : DeliversIntactFrames carrier pieces (received_ethernet_frames carrier pieces)
  pub arrived : DeliversFrames carrier pieces (received_ethernet_frames carrier pieces)
  pub all : recording ≡ bytes → received_ethernet_frames carrier pieces ≡ frames_to_carry carrier is.captured
