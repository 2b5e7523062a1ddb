-- What was gathered of a recording, or why it was not.
use Rattle.std.specs.Prelude.{◌≡◌, ◌⊎◌, ℕ, ◌*◌, ◌<◌, ◌≤◌, List, [], ◌∷◌, ◌++◌, length}
use Rattle.std.specs.Io.KnownBytes.{IsAtEnd}
use Rattle.wire_spec.specs.Causes.{raised, Rose}
use Rattle.pcap_file.specs.Reading.{most_records as most_datagrams, most_bytes}
use Rattle.pcap_file.specs.Told.{bytes_in}
use Rattle.ipe_io.specs.Told.{InputTold}
use Rattle.plan_spec.specs.Plan.{PlanFields}
use Rattle.carrier_spec.specs.Stream.{piece_size}
use Rattle.recording_spec.specs.Pieces.{told_pairs, delivered_pairs}
use Rattle.recording_spec.specs.Relayed.{datagrams_in, relayed}
use Rattle.recording_reader.specs.Reading.{most_pieces}
use Rattle.recording_reader.specs.Taken.{HasRead, TakesAllOf, TakesFrontOf, TakesMostOf}
use Rattle.relay_core.specs.Gathering.{GatherState, FitsCapture, HasGathered}

-- more datagrams than a capture has, or more bytes
abbrev pub PassesCapture : List (List ℕ) → Type 0
PassesCapture datagrams = (most_datagrams < length datagrams) ⊎ (most_bytes < bytes_in datagrams)

-- the datagrams that these pieces tell
abbrev pub told_in : PlanFields → List (List ℕ) → List (List ℕ)
told_in plan pieces = datagrams_in (told_pairs plan pieces)

-- the input was read to its end: these pieces, fewer than the most, and fewer bytes than one has after them
pub record IsReadToEnd (plan : PlanFields) (input now : InputTold) (pieces : List (List ℕ)) : Type 0 where
  pub behind : List ℕ
  pub read : HasRead (piece_size plan) input.left now.left pieces behind
  pub fewer : length pieces < most_pieces
  pub at_end : IsAtEnd now.left
  pub takes : TakesAllOf (piece_size plan) input now

-- these are the datagrams that the recording delivers, its end included
pub record Gathers (plan : PlanFields) (input now : InputTold) (datagrams : List (List ℕ)) : Type 0 where
  pub pieces : List (List ℕ)
  pub read : IsReadToEnd plan input now pieces
  pub datagrams_are : datagrams ≡ relayed plan pieces

-- the input failed after so many pieces, and fewer bytes than one has; the datagrams that they tell are within the limits
pub record FailsToRead (plan : PlanFields) (input now : InputTold) : Type 0 where
  pub pieces : List (List ℕ)
  pub behind : List ℕ
  pub read : HasRead (piece_size plan) input.left now.left pieces behind
  pub fewer : length pieces < most_pieces
  pub fits : FitsCapture (told_in plan pieces)
  pub takes : TakesFrontOf (piece_size plan) input now
  pub rose : Rose input.faults now.faults

-- the most pieces that are read were read, and nothing after them; the datagrams that they tell are within the limits
pub record StopsAtMost (plan : PlanFields) (input now : InputTold) : Type 0 where
  pub pieces : List (List ℕ)
  pub read : HasRead (piece_size plan) input.left now.left pieces []
  pub most : length pieces ≡ most_pieces
  pub fits : FitsCapture (told_in plan pieces)
  pub taken : now.taken ≡ raised input.taken (piece_size plan * most_pieces)

-- nothing was read after the piece with which the datagrams first pass the limits
pub record StopsWithin (plan : PlanFields) (input now : InputTold) : Type 0 where
  pub before : List (List ℕ)
  pub piece : List ℕ
  pub read : HasRead (piece_size plan) input.left now.left (before ++ piece ∷ []) []
  pub most : length (before ++ piece ∷ []) ≤ most_pieces
  pub fits : FitsCapture (told_in plan before)
  pub many : PassesCapture (told_in plan (before ++ piece ∷ []))
  pub takes : TakesMostOf (piece_size plan) input now

-- all was read, and the datagrams pass the limits only with those that the end gives
pub record StopsAfter (plan : PlanFields) (input now : InputTold) : Type 0 where
  pub pieces : List (List ℕ)
  pub read : IsReadToEnd plan input now pieces
  pub fits : FitsCapture (told_in plan pieces)
  pub many : PassesCapture (relayed plan pieces)

-- too many pieces, or too many datagrams or bytes of them
pub data HasTooMany (plan : PlanFields) (input now : InputTold) : Type 0 where
  at_most : StopsAtMost plan input now → HasTooMany plan input now
  within : StopsWithin plan input now → HasTooMany plan input now
  after : StopsAfter plan input now → HasTooMany plan input now

-- nothing was read after a piece that gives a datagram with which, and with all before it, the limits are not passed: memory may have lacked for it
pub record LacksWithin (plan : PlanFields) (input now : InputTold) : Type 0 where
  pub before : List (List ℕ)
  pub piece : List ℕ
  pub given : List (ℕ × List ℕ)
  pub service : ℕ
  pub datagram : List ℕ
  pub behind : List (ℕ × List ℕ)
  pub read : HasRead (piece_size plan) input.left now.left (before ++ piece ∷ []) []
  pub most : length (before ++ piece ∷ []) ≤ most_pieces
  pub gives : told_pairs plan (before ++ piece ∷ []) ≡ told_pairs plan before ++ given ++ (service, datagram) ∷ behind
  pub fits : FitsCapture (datagrams_in (told_pairs plan before ++ given ++ (service, datagram) ∷ []))
  pub takes : TakesMostOf (piece_size plan) input now

-- all was read, and the end gives such a datagram
pub record LacksAfter (plan : PlanFields) (input now : InputTold) : Type 0 where
  pub pieces : List (List ℕ)
  pub given : List (ℕ × List ℕ)
  pub service : ℕ
  pub datagram : List ℕ
  pub behind : List (ℕ × List ℕ)
  pub read : IsReadToEnd plan input now pieces
  pub gives : delivered_pairs plan pieces ≡ told_pairs plan pieces ++ given ++ (service, datagram) ∷ behind
  pub fits : FitsCapture (datagrams_in (told_pairs plan pieces ++ given ++ (service, datagram) ∷ []))

-- memory may have lacked for a datagram of the last piece that was read, or of the end, with which the limits are not passed
pub data LacksForDatagram (plan : PlanFields) (input now : InputTold) : Type 0 where
  in_piece : LacksWithin plan input now → LacksForDatagram plan input now
  at_end : LacksAfter plan input now → LacksForDatagram plan input now

-- these datagrams were gathered under the outer plan: all that the recording delivers, its end included
pub record GathersAll (plan outer : PlanFields) (input now : InputTold) (gather : GatherState) : Type 0 where
  pub datagrams : List (List ℕ)
  pub gathers : Gathers plan input now datagrams
  pub gathered : HasGathered outer gather datagrams
