-- What a packet that is written makes of a packer.
use Rattle.std.proofs.Common.{◌≡◌, ℕ, suc, ◌+◌, ◌-◌, ◌%◌, Bool, true, false, List, [], ◌∷◌, ◌++◌, take, length, zero-add, refl, ap, Some}
use Rattle.ts_spec.specs.Form.{UnitForm}
use Rattle.ts_spec.specs.Packet.{packet_bytes}
use Rattle.unit_stream.specs.Packing.{Piece, pieces, byte_count, numbered}
use Rattle.unit_stream.specs.Packers.{PackerState, between, units_of, end_of, pieces_left, Writes}
use Rattle.unit_stream.specs.declared.packer.Part.{Part}
use Rattle.unit_stream.specs.Parts.{payload_with, NextPart}

pub writes_part : (form : UnitForm) (old : PackerState) (bytes ends into : List ℕ) (part : Part)
    → NextPart form.start old.packing bytes ends old.begun old.at (Some part)
    → into ≡ packet_bytes old.pid part.starts old.counter (payload_with part.starts (end_of ends old.begun - old.at) (between bytes old.at part.at))
    → Writes form old (record { pid = old.pid; packing = old.packing; counter = (old.counter + 1) % 16; begun = part.begun; at = part.at }) bytes ends into true
writes_part form old bytes ends into part next written = (
  record { pid = old.pid; starts = part.starts; counter = old.counter; broken = false; payload = payload_with part.starts (end_of ends old.begun - old.at) (between bytes old.at part.at) },
  ap (numbered old.pid old.counter) next,
  written,
)

-- a payload after the header of a packet that was written
pub payload_put : (pid counter : ℕ) (starts : Bool) (packet payload behind : List ℕ) → packet ≡ packet_bytes pid starts counter behind
    → take 4 packet ++ payload ≡ packet_bytes pid starts counter payload
payload_put pid counter starts packet payload behind is = ap (λ (t : List ℕ). take 4 t ++ payload) is

-- each piece is one packet
pub length-numbered : (pid counter : ℕ) (pieces : List Piece) → length (numbered pid counter pieces) ≡ length pieces
length-numbered pid counter [] = refl
length-numbered pid counter (piece ∷ behind) = ap suc (length-numbered pid ((counter + 1) % 16) behind)

-- before the first packet all units are left
pub left_at_first : (start : ℕ) (packing : Bool) (bytes ends : List ℕ)
    → pieces_left start packing bytes ends 0 0 ≡ pieces (byte_count (units_of bytes ends)) start packing [] (units_of bytes ends)
left_at_first start packing bytes ends = ap (λ (n : ℕ). pieces n start packing [] (units_of bytes ends)) (zero-add (byte_count (units_of bytes ends)))
