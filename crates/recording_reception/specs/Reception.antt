-- One reception of a recording of either carrier, its end included: what a receiver was given, what an outlet took, and how it ends by the answer.
use Rattle.std.specs.Prelude.{◌≡◌, ◌⊎◌, ℕ, ◌+◌, ◌*◌, ◌<◌, ◌≤◌, Bool, true, false, List, [], ◌∷◌, ◌++◌, length, Option, None, Some, Result, Ok, Err}
use Rattle.std.specs.Io.KnownBytes.{IsAtEnd}
use Rattle.std.specs.Option.{unwrap_or}
use Rattle.wire_spec.specs.Causes.{raised, Rose}
use Rattle.ts_spec.specs.Recording.{RecordingForm, plain, record_size}
use Rattle.ipe_io.specs.Told.{InputTold}
use Rattle.plan_spec.specs.Plan.{PlanFields, is_baseband}
use Rattle.carrier_spec.specs.Stream.{piece_size}
use Rattle.recording_spec.specs.Pieces.{records_in, told_pairs, pairs_of_piece, pairs_of_end}
use Rattle.outlet_spec.specs.Pairs.{Delivers}
use Rattle.recording_reader.specs.Reading.{most_pieces}
use Rattle.recording_reader.specs.Taken.{HasRead}
use Rattle.recording_reader.specs.Any.{form_in, size_in, content_in, count_in, HasReadIn}
use Rattle.recording_reader.specs.declared.any.RecordingPieces.{RecordingPieces}
use Rattle.recording_reader.specs.declared.fault.ReadFault.{ReadFault}
use Rattle.recording_reader.specs.declared.fault.ReadFault.TheVariants as fault
use Rattle.demux_core.specs.Carriers.{plan_of, is_open_in, stream_of, HasReceivedPackets, HasReceivedFrames}
use Rattle.demux_core.specs.Carried.{TakesSize}
use Rattle.demux_core.specs.declared.receiver.ByCarrier.{ByCarrier}

-- a receiver of packets, or where frames have so many bytes of these, was given these pieces, and the recording has ended, or more may come
abbrev pub IsGivenOn : Option ℕ → Bool → PlanFields → List (List ℕ) → ByCarrier → Type 0
IsGivenOn None ended plan pieces receiver = HasReceivedPackets ended plan (records_in plan pieces) receiver
IsGivenOn (Some bytes) ended plan frames receiver = HasReceivedFrames plan frames receiver

-- the receiver of a plan
abbrev pub IsGiven : Bool → PlanFields → List (List ℕ) → ByCarrier → Type 0
IsGiven ended plan pieces receiver = IsGivenOn plan.frame_bytes ended plan pieces receiver

-- the pieces of a recording under a plan have this form and size
abbrev pub IsFormOn : Option ℕ → PlanFields → RecordingForm → ℕ → Type 0
IsFormOn None plan form size = (form ≡ plan.recording) × (size ≡ record_size plan.recording)
IsFormOn (Some bytes) plan form size = (form ≡ plain) × (size ≡ bytes) × (is_baseband plan ≡ true)

abbrev pub IsFormOf : PlanFields → RecordingForm → ℕ → Type 0
IsFormOf plan form size = IsFormOn plan.frame_bytes plan form size

-- and their records so many bytes: those of packets, or of frames
abbrev pub HasContentOf : {A : Type 0} → PlanFields → RecordingPieces A → Type 0
HasContentOf plan pieces = content_in pieces ≡ unwrap_or plan.frame_bytes 188

-- a reception under a plan at its beginning: the pieces have the plan's form, none was read, and the receiver of the plan, which is open, was given nothing
pub record HasBegun {A : Type 0} (plan : PlanFields) (receiver : ByCarrier) (pieces : RecordingPieces A) : Type 0 where
  pub form : IsFormOf plan (form_in pieces) (size_in pieces)
  pub unread : HasReadIn pieces []
  pub uncounted : count_in pieces ≡ 0
  pub plan_is : plan_of receiver ≡ plan
  pub is_open : is_open_in receiver ≡ true
  pub given : IsGiven false plan [] receiver
  pub records : (stream_of receiver).records ≡ 0
  pub takes : TakesSize receiver (content_in pieces)

-- an outlet took these pairs, and refused none
pub record TakesPairs (Old New : List (ℕ × List ℕ) → Type 0) (faults now_faults : ℕ) (pairs : List (ℕ × List ℕ)) : Type 0 where
  pub delivers : Delivers Old New pairs
  pub kept : now_faults ≡ faults

-- it took these pairs, and refused this datagram after them
pub record RefusesAfter (Old New : List (ℕ × List ℕ) → Type 0) (Refused : ℕ → List ℕ → Type 0) (pairs : List (ℕ × List ℕ)) (service : ℕ) (datagram : List ℕ) : Type 0 where
  pub delivers : Delivers Old New pairs
  pub refuses : Refused service datagram

-- an outlet stopped at a pair of the last of these pieces, after those before it
pub record StopsInLast (plan : PlanFields) (Stopped : List (ℕ × List ℕ) → ℕ → List ℕ → Type 0) (all : List (List ℕ)) : Type 0 where
  pub pieces : List (List ℕ)
  pub piece : List ℕ
  pub all_are : all ≡ pieces ++ piece ∷ []
  pub front : List (ℕ × List ℕ)
  pub service : ℕ
  pub datagram : List ℕ
  pub rest : List (ℕ × List ℕ)
  pub pairs : pairs_of_piece plan (pieces ++ piece ∷ []) (length pieces) ≡ front ++ (service, datagram) ∷ rest
  pub stopped : Stopped (told_pairs plan pieces ++ front) service datagram

-- or at a pair that the end gives after these pieces
pub record StopsBehind (plan : PlanFields) (Stopped : List (ℕ × List ℕ) → ℕ → List ℕ → Type 0) (pieces : List (List ℕ)) : Type 0 where
  pub front : List (ℕ × List ℕ)
  pub service : ℕ
  pub datagram : List ℕ
  pub rest : List (ℕ × List ℕ)
  pub pairs : pairs_of_end plan pieces ≡ front ++ (service, datagram) ∷ rest
  pub stopped : Stopped (told_pairs plan pieces ++ front) service datagram

-- how a reception of these pieces and the bytes after them ends: an outlet took what they deliver, or stopped
abbrev pub PiecesEnd : Result ℕ ReadFault → PlanFields → InputTold → InputTold → ByCarrier → (List (ℕ × List ℕ) → Type 0) → (List (ℕ × List ℕ) → ℕ → List ℕ → Type 0)
    → List (List ℕ) → List ℕ → Type 0
PiecesEnd (Ok tail) plan input now receiver Took Stopped pieces behind =
    (tail ≡ length behind) × (length pieces < most_pieces) × IsAtEnd now.left × (now.ended ≡ true) × (now.faults ≡ input.faults)
    × Took (told_pairs plan pieces ++ pairs_of_end plan pieces) × IsGiven true plan pieces receiver
PiecesEnd (Err fault.Source) plan input now receiver Took Stopped pieces behind =
    (length pieces < most_pieces) × (input.ended ≡ false → now.ended ≡ false) × Rose input.faults now.faults × Took (told_pairs plan pieces)
PiecesEnd (Err fault.TooLong) plan input now receiver Took Stopped pieces behind =
    (behind ≡ []) × (length pieces ≡ most_pieces) × (now.faults ≡ input.faults) × Took (told_pairs plan pieces)
PiecesEnd (Err fault.Taker) plan input now receiver Took Stopped pieces behind =
    (now.faults ≡ input.faults)
    × (((behind ≡ []) × (length pieces ≤ most_pieces) × StopsInLast plan Stopped pieces)
    ⊎ ((length pieces < most_pieces) × IsAtEnd now.left × (now.ended ≡ true) × StopsBehind plan Stopped pieces))

-- a recording was received, its end included
pub record ReceivesPieces (result : Result ℕ ReadFault) (plan : PlanFields) (input now : InputTold) (receiver : ByCarrier) (Took : List (ℕ × List ℕ) → Type 0)
    (Stopped : List (ℕ × List ℕ) → ℕ → List ℕ → Type 0) : Type 0 where
  pub pieces : List (List ℕ)
  pub behind : List ℕ
  pub read : HasRead (piece_size plan) input.left now.left pieces behind
  pub taken : now.taken ≡ raised input.taken (piece_size plan * length pieces + length behind)
  pub ends : PiecesEnd result plan input now receiver Took Stopped pieces behind
