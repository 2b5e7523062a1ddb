-- What became of a rack while records were taken: the file at a place grew by the capture records of the Ethernet frames that they give.
use Rattle.std.specs.Prelude.{◌≡◌, ℕ, ◌<◌, List, [], ◌∷◌, ◌++◌, length, take}
use Rattle.wire_spec.specs.Causes.{Rose}
use Rattle.ts_spec.specs.Recording.{Record}
use Rattle.ipe_io.specs.Told.{RackTold}
use Rattle.outlet_spec.specs.Pairs.{pairs_of}
use Rattle.pcap_file.specs.Capture.{capture_record}
use Rattle.bridge_spec.specs.Frames.{BridgeCarrier}
use Rattle.bridge_frame.specs.Taking.{frames_of_records, added_by_record}
use Rattle.capture_files.specs.Growth.{Grow, records_at, records_and}

-- by all of them, and nothing failed
pub record HasWritten (carrier : BridgeCarrier) (place : ℕ) (rack now : RackTold) (records : List Record) : Type 0 where
  pub files : Grow rack.files now.files (records_at place (pairs_of 0 (frames_of_records carrier records)))
  pub count : now.count ≡ rack.count
  pub kept : now.faults ≡ rack.faults

-- by those before a frame that the last record gives, and by less than all of the capture record of this one, at which the rack failed
pub record HasStopped (carrier : BridgeCarrier) (place : ℕ) (rack now : RackTold) (records : List Record) : Type 0 where
  pub before : List Record
  pub last : Record
  pub records_are : records ≡ before ++ last ∷ []
  pub front : List (List ℕ)
  pub frame : List ℕ
  pub rest : List (List ℕ)
  pub gives : added_by_record carrier before last ≡ front ++ frame ∷ rest
  pub count : ℕ
  pub less : count < length (capture_record frame)
  pub files : Grow rack.files now.files (records_and place 0 (take count (capture_record frame)) (pairs_of 0 (frames_of_records carrier before ++ front)))
  pub places : now.count ≡ rack.count
  pub rose : Rose rack.faults now.faults
