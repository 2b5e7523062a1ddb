-- A packer over units that stand one after another in a buffer.
use Rattle.std.specs.Prelude.{◌≡◌, ℕ, ◌+◌, ◌-◌, ◌≤◌, Bool, true, false, List, [], ◌∷◌, ◌++◌, take, drop, length, slice_index, Option, Some, None}
use Rattle.ts_spec.specs.Form.{UnitForm}
use Rattle.ts_spec.specs.Packet.{PacketFields, packet_bytes}
use Rattle.unit_stream.specs.declared.packer.Room.{Room}
use Rattle.unit_stream.specs.Packing.{Piece, pieces, byte_count, numbered}

-- the bytes from one place to another
abbrev pub between : List ℕ → ℕ → ℕ → List ℕ
between bytes from to = take (to - from) (drop from bytes)

-- the units that end at these places, the first from a place on
abbrev pub units_from : ℕ → List ℕ → List ℕ → List (List ℕ)
units_from from bytes [] = []
units_from from bytes (end ∷ ends) = between bytes from end ∷ units_from end bytes ends

abbrev pub units_of : List ℕ → List ℕ → List (List ℕ)
units_of bytes ends = units_from 0 bytes ends

-- each unit has so many bytes at least
abbrev pub AreRising : ℕ → ℕ → List ℕ → Type 0
AreRising start from [] = Unit {0}
AreRising start from (end ∷ ends) = (from + start ≤ end) × AreRising start end ends

-- where the last of so many units ends
abbrev pub end_of : List ℕ → ℕ → ℕ
end_of ends begun = slice_index (0 ∷ ends) begun

-- the places are in order, START bytes or more apart, and within the buffer
pub record AreEnds (start size : ℕ) (ends : List ℕ) : Type 0 where
  pub rising : AreRising start 0 ends
  pub within : end_of ends (length ends) ≤ size

-- what a packer holds: how many units have begun, and how many of all bytes are out
pub record PackerState : Type 0 where
  pub pid : ℕ
  pub packing : Bool
  pub counter : ℕ
  pub begun : ℕ
  pub at : ℕ

-- the packer is on its way through these units
pub record IsOnWay (state : PackerState) (ends : List ℕ) : Type 0 where
  pub begun : state.begun ≤ length ends
  pub at : state.at ≤ end_of ends state.begun

-- the packets that are still to come of the units in a buffer
abbrev pub pieces_left : ℕ → Bool → List ℕ → List ℕ → ℕ → ℕ → List Piece
pieces_left start packing bytes ends begun at =
    pieces (length (between bytes at (end_of ends begun)) + byte_count (units_from (end_of ends begun) bytes (drop begun ends)))
    start packing (between bytes at (end_of ends begun)) (units_from (end_of ends begun) bytes (drop begun ends))

abbrev pub packets_left : UnitForm → PackerState → List ℕ → List ℕ → List PacketFields
packets_left form state bytes ends =
    numbered state.pid state.counter (pieces_left form.start state.packing bytes ends state.begun state.at)

-- the packet as it is written
abbrev pub written : PacketFields → List ℕ
written packet = packet_bytes packet.pid packet.starts packet.counter packet.payload

-- what an answer of a packer means: one packet more is written, or none is left
abbrev pub Writes : UnitForm → PackerState → PackerState → List ℕ → List ℕ → List ℕ → Bool → Type 0
Writes form old new bytes ends into true =
    (packet : PacketFields) × (packets_left form old bytes ends ≡ packet ∷ packets_left form new bytes ends) × (into ≡ written packet)
Writes form old new bytes ends into false = (packets_left form old bytes ends ≡ []) × (new ≡ old)

-- a packet in which these bytes stand from a place on
abbrev pub with_bytes : ℕ → List ℕ → List ℕ → List ℕ
with_bytes from bytes packet = take from packet ++ (bytes ++ drop (from + length bytes) packet)

-- what an answer means that leaves out the bytes of units: with them one packet more is written, or none is left
abbrev pub WritesAround : UnitForm → PackerState → PackerState → List ℕ → List ℕ → List ℕ → Option Room → Type 0
WritesAround form old new bytes ends into (Some room) = Writes form old new bytes ends (with_bytes room.from (between bytes old.at new.at) into) true
WritesAround form old new bytes ends into None = Writes form old new bytes ends into false
