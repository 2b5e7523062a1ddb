-- The sender's one packetization of units (ISO/IEC 13818-1 clause 2.4.4, RFC 4326 section 6): a packet that carries
-- the end of a unit carries the next one too, where there is room, with packing on.
use Rattle.std.specs.Prelude.{ℕ, zero, suc, ◌+◌, ◌-◌, ◌%◌, Bool, true, false, ◌&&◌, ◌||◌, List, [], ◌∷◌, ◌++◌, take, drop, length, replicate, ◌==◌, nat_le, if◌then◌else◌}
use Rattle.ts_spec.specs.Form.{UnitForm}
use Rattle.ts_spec.specs.Packet.{PacketFields}

-- what stands in a packet after the end of the unit before: its bytes, what is left of the unit that goes on
-- in the next packet, and the units that begin in later packets
pub record Filling : Type 0 where
  pub bytes : List ℕ
  pub rest : List ℕ
  pub units : List (List ℕ)

-- no unit more begins: the room is filled with bytes FF
abbrev pub stuffed : ℕ → List (List ℕ) → Filling
stuffed room units = record { bytes = replicate room 0xFF; rest = []; units = units }

-- what stands in a packet after the end of a unit
abbrev pub behind_unit : List ℕ → Filling → Filling
behind_unit unit filling = record { bytes = unit ++ filling.bytes; rest = filling.rest; units = filling.units }

-- what stands in a packet after the end of the unit before: units as long as they have room, then bytes FF (ISO/IEC 13818-1 clause 2.4.4, RFC 4326 section 6).
-- The first of them begins where there is room for so many bytes; where it ends there, the next one follows at once if packing is on and its first bytes have
-- room
abbrev pub filled : ℕ → Bool → ℕ → List (List ℕ) → Filling
filled start packing room [] = stuffed room []
filled start packing room (unit ∷ units) =
    if nat_le (length unit) room
    then behind_unit unit (if packing && nat_le start (room - length unit)
    then filled start packing (room - length unit) units
    else stuffed (room - length unit) units)
    else record { bytes = take room unit; rest = drop room unit; units = units }

-- a packet without its header: whether a unit begins in it, and its payload of 184 bytes
pub record Piece : Type 0 where
  pub starts : Bool
  pub payload : List ℕ

-- the next unit may begin in a packet that carries the rest of the one before: where nothing is left of that, or packing is on and the rest leaves room for its
-- first bytes after the pointer (RFC 4326 section 6)
abbrev pub may_begin : ℕ → Bool → List ℕ → List (List ℕ) → Bool
may_begin start packing rest [] = false
may_begin start packing rest (unit ∷ units) = (length rest == 0) || (packing && nat_le (length rest + start) 183)

-- a packet in which a unit begins: the pointer is the number of bytes left of the unit before
abbrev pub begin_piece : List ℕ → Filling → (List ℕ → List (List ℕ) → List Piece) → List Piece
begin_piece rest filling next =
    record { starts = true; payload = length rest ∷ (rest ++ filling.bytes) } ∷ next filling.rest filling.units

-- a packet in which none begins: up to 184 bytes of the unit under way, then bytes FF
abbrev pub middle_piece : List ℕ → Piece
middle_piece rest = record { starts = false; payload = take 184 rest ++ replicate (184 - length rest) 0xFF }

-- the packets, without headers, of the rest of a unit and the units after it, at most so many
abbrev pub pieces : ℕ → ℕ → Bool → List ℕ → List (List ℕ) → List Piece
pieces zero start packing rest units = []
pieces (suc most) start packing rest units =
    if may_begin start packing rest units
    then begin_piece rest (filled start packing (183 - length rest) units) (pieces most start packing)
    else if length rest == 0 then []
    else middle_piece rest ∷ pieces most start packing (drop 184 rest) units

-- the bytes of all units: there are no more packets than these
abbrev pub byte_count : List (List ℕ) → ℕ
byte_count [] = 0
byte_count (unit ∷ units) = length unit + byte_count units

-- the packets of one PID, with counters that go on from the first (ISO/IEC 13818-1 clause 2.4.3.3)
abbrev pub numbered : ℕ → ℕ → List Piece → List PacketFields
numbered pid counter [] = []
numbered pid counter (piece ∷ behind) =
    record { pid = pid; starts = piece.starts; counter = counter; broken = false; payload = piece.payload }
    ∷ numbered pid ((counter + 1) % 16) behind

-- the one packetization of the units (RFC 4326 section 6)
abbrev pub packetized : UnitForm → Bool → ℕ → ℕ → List (List ℕ) → List PacketFields
packetized form packing pid counter units =
    numbered pid counter (pieces (byte_count units) form.start packing [] units)
