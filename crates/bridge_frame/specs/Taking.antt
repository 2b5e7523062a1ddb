-- A bridge as a taker of records: those of transport packets, or the frames of a plain recording.
use Rattle.std.specs.Prelude.{◌≡◌, ℕ, ◌≤◌, true, false, List, [], ◌∷◌, ◌++◌, map}
use Rattle.wire_spec.specs.Causes.{Rose}
use Rattle.ts_spec.specs.Recording.{Record}
use Rattle.outlet_spec.specs.Pairs.{pairs_of, Delivers, DeliversFront}
use Rattle.bridge_spec.specs.Frames.{BridgeCarrier, on_pid, on_isi, frames_on_pid, frames_on_isi}
use Rattle.bridge_frame.specs.Sndus.{added_on_pid}
use Rattle.bridge_frame.specs.Bridge.{BridgeState, is_of_sndus, HasTakenRecords, HasTakenFrames, added_on_isi}

-- the bytes of each record
abbrev pub contents : List Record → List (List ℕ)
contents records = map (λ (r : Record). r.bytes) records

-- the received Ethernet frames of records, and those that one record more adds
abbrev pub frames_of_records : BridgeCarrier → List Record → List (List ℕ)
frames_of_records (on_pid pid) records = frames_on_pid pid records
frames_of_records (on_isi isi) records = frames_on_isi isi (contents records)

abbrev pub added_by_record : BridgeCarrier → List Record → Record → List (List ℕ)
added_by_record (on_pid pid) records r = added_on_pid pid records r
added_by_record (on_isi isi) records r = added_on_isi isi (contents records) r.bytes

-- a bridge of this PID or ISI was given these records
abbrev pub HasTaken : BridgeCarrier → BridgeState → List Record → Type 0
HasTaken (on_pid pid) bridge records = HasTakenRecords pid bridge records
HasTaken (on_isi isi) bridge records = HasTakenFrames isi bridge (contents records)

-- the records of a bridge of SNDUs are packets, and those of one of GSE packets have a header and its CRC-8
pub record TakesSize (bridge : BridgeState) (size : ℕ) : Type 0 where
  pub packet : is_of_sndus bridge.units ≡ true → size ≡ 188
  pub frame : is_of_sndus bridge.units ≡ false → 10 ≤ size

-- it was given these records, and an outlet all their Ethernet frames as service 0, without a fault
pub record HasGiven (carrier : BridgeCarrier) (now : BridgeState) (old new : List (ℕ × List ℕ) → Type 0) (faults now_faults : ℕ) (records : List Record) : Type 0 where
  pub received : HasTaken carrier now records
  pub delivers : Delivers old new (pairs_of 0 (frames_of_records carrier records))
  pub outlet_faults : now_faults ≡ faults

-- and the outlet refused a frame that the last of them gives: it stands for all of those before it, and for the first of its own
pub record HasStopped (carrier : BridgeCarrier) (now : BridgeState) (old new : List (ℕ × List ℕ) → Type 0) (refused : ℕ → List ℕ → Type 0) (faults now_faults : ℕ)
    (records : List Record) : Type 0 where
  pub received : HasTaken carrier now records
  pub stops : DeliversFront old new refused (pairs_of 0 (frames_of_records carrier records))
  pub before : List Record
  pub last : Record
  pub records_are : records ≡ before ++ last ∷ []
  pub front : List (ℕ × List ℕ)
  pub late : stops.front ≡ pairs_of 0 (frames_of_records carrier before) ++ front
  pub gives : pairs_of 0 (added_by_record carrier before last) ≡ front ++ (stops.service, stops.datagram) ∷ stops.behind
  pub rose : Rose faults now_faults

-- the same of a bridge that was given nothing before
abbrev pub TookRecords : BridgeState → BridgeState → (List (ℕ × List ℕ) → Type 0) → (List (ℕ × List ℕ) → Type 0) → ℕ → ℕ → List Record → Type 0
TookRecords start now old new faults now_faults records = (carrier : BridgeCarrier) → HasTaken carrier start [] → HasGiven carrier now old new faults now_faults records

abbrev pub StoppedInRecord : BridgeState → BridgeState → (List (ℕ × List ℕ) → Type 0) → (List (ℕ × List ℕ) → Type 0) → (ℕ → List ℕ → Type 0) → ℕ → ℕ → List Record → Type 0
StoppedInRecord start now old new refused faults now_faults records =
    (carrier : BridgeCarrier) → HasTaken carrier start [] → HasStopped carrier now old new refused faults now_faults records
