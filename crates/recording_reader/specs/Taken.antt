-- What an input gave of a recording in pieces of so many bytes, for the commands that read one.
use Rattle.std.specs.Prelude.{◌≡◌, ℕ, ◌*◌, ◌<◌, ◌≤◌, true, false, List, ◌++◌, length, All, Option}
use Rattle.std.specs.Io.KnownBytes.{Consumes}
use Rattle.wire_spec.specs.Causes.{raised}
use Rattle.wire_spec.specs.Lists.{joined}
use Rattle.ipe_io.specs.Told.{InputTold}
use Rattle.recording_reader.specs.Reading.{most_pieces}

-- what an input held begins with these pieces, each of so many bytes, and the bytes after them, fewer than a piece has, and they were read
pub record HasRead (size : ℕ) (left now : Option (List ℕ)) (pieces : List (List ℕ)) (behind : List ℕ) : Type 0 where
  pub each : All (λ piece. length piece ≡ size) pieces
  pub short : length behind < size
  pub consumed : Consumes left now (joined pieces ++ behind)

-- an input was read to its end, and gave fewer bytes than the most pieces have
pub record TakesAllOf (size : ℕ) (input now : InputTold) : Type 0 where
  pub ended : now.ended ≡ true
  pub count : ℕ
  pub fewer : count < size * most_pieces
  pub taken : now.taken ≡ raised input.taken count

-- an input could not be read on, and gave fewer bytes than the most pieces have
pub record TakesFrontOf (size : ℕ) (input now : InputTold) : Type 0 where
  pub going : input.ended ≡ false → now.ended ≡ false
  pub count : ℕ
  pub fewer : count < size * most_pieces
  pub taken : now.taken ≡ raised input.taken count

-- an input gave at most as many bytes as the most pieces have
pub record TakesMostOf (size : ℕ) (input now : InputTold) : Type 0 where
  pub count : ℕ
  pub most : count ≤ size * most_pieces
  pub taken : now.taken ≡ raised input.taken count
