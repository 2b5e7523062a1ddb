-- What one packet carries of units that stand one after another in a buffer.
use Rattle.std.specs.Prelude.{◌≡◌, ℕ, ◌+◌, ◌-◌, ◌<◌, ◌≤◌, Bool, true, List, [], ◌∷◌, ◌++◌, drop, length, replicate, if◌then◌else◌, Option, Some, None}
use Rattle.unit_stream.specs.declared.packer.Part.{Part}
use Rattle.unit_stream.specs.Packing.{filled, Piece}
use Rattle.unit_stream.specs.Packers.{between, units_from, end_of, pieces_left}

-- a payload with these bytes, after a pointer where a unit begins in it
abbrev pub payload_with : Bool → ℕ → List ℕ → List ℕ
payload_with starts pointer bytes =
    if starts
    then pointer ∷ (bytes ++ replicate (183 - length bytes) 0xFF)
    else bytes ++ replicate (184 - length bytes) 0xFF

-- the part of the buffer that one packet carries
abbrev pub part_piece : Bool → List ℕ → ℕ → ℕ → ℕ → Piece
part_piece starts bytes end from to = record { starts = starts; payload = payload_with starts (end - from) (between bytes from to) }

-- what the next packet carries
abbrev pub NextPart : ℕ → Bool → List ℕ → List ℕ → ℕ → ℕ → Option Part → Type 0
NextPart start packing bytes ends begun at None = pieces_left start packing bytes ends begun at ≡ []
NextPart start packing bytes ends begun at (Some part) =
    pieces_left start packing bytes ends begun at
    ≡ part_piece part.starts bytes (end_of ends begun) at part.at ∷ pieces_left start packing bytes ends part.begun part.at

-- the units that begin in the packet fill its room from a place on
pub record Fills (start : ℕ) (packing : Bool) (room : ℕ) (ends : List ℕ) (begun : ℕ) (part : Part) : Type 0 where
  pub count : part.begun ≤ length ends
  pub from : end_of ends begun ≤ part.at
  pub to : part.at ≤ end_of ends part.begun
  pub room_left : part.at ≤ end_of ends begun + room
  pub some : begun < length ends → 1 ≤ room → end_of ends begun < part.at
  pub filled_is : (bytes : List ℕ) → end_of ends (length ends) ≤ length bytes
      → filled start packing room (units_from (end_of ends begun) bytes (drop begun ends))
      ≡ record {
        bytes = between bytes (end_of ends begun) part.at ++ replicate (room - (part.at - end_of ends begun)) 0xFF;
        rest = between bytes part.at (end_of ends part.begun);
        units = units_from (end_of ends part.begun) bytes (drop part.begun ends);
      }

-- the part lies after the bytes that are out, and within the units that have begun
pub record IsPart (ends : List ℕ) (begun at : ℕ) (part : Part) : Type 0 where
  pub count : part.begun ≤ length ends
  pub from : at < part.at
  pub to : part.at ≤ end_of ends part.begun
  pub room : part.at ≤ at + (if part.starts then 183 else 184)
  pub pointer : part.starts ≡ true → end_of ends begun ≤ at + 183
