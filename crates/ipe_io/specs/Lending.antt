-- What a source does that lends its next bytes in place of moving them.
use Rattle.std.specs.Prelude.{◌≡◌, ℕ, List, length, Option, Some, None}
use Rattle.std.specs.Io.KnownBytes.{Consumes}
use Rattle.wire_spec.specs.Causes.{raised}
use Rattle.ipe_io.specs.Told.{InputTold}
use denote.Ref.{Bor}

-- these bytes were the next ones, and they are taken and counted; no read found the end, and nothing failed
pub record IsTaken (old new : InputTold) (bytes : List ℕ) : Type 0 where
  pub read : Consumes old.left new.left bytes
  pub taken : new.taken ≡ raised old.taken (length bytes)
  pub ended : new.ended ≡ old.ended
  pub faults : new.faults ≡ old.faults

-- what was lent is taken; where nothing was, all is as it was
abbrev pub Lends : InputTold → InputTold → Option (Bor (List ℕ)) → Type 0
Lends old new (Some piece) = IsTaken old new piece.now
Lends old new None = new ≡ old
