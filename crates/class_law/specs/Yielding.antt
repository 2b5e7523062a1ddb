-- When PDUs begin and go on in the frames of an input stream: its packets, one after another, with the ends of the frames between them.
use Rattle.std.specs.Prelude.{◌≡◌, ℕ, suc, ◌<◌, Bool, true, false, not, Option, None, Some, is_some, List, [], ◌∷◌, ◌++◌, map, flat_map, drop, length, nat_lt}
use Rattle.std.specs.List.{list_all}
use Rattle.gse_spec.specs.Frame.{frame_fields}
use Rattle.gse_spec.specs.Packet.{GsePacket, complete_packet, start_packet, middle_packet, end_packet, packets_of}
use Rattle.gse_spec.specs.Reassembly.{Pdu}
use Rattle.gse_law.specs.Classes.{first_one, BeginInOrder}
use Rattle.gse_law.specs.Streams.{frames_of}

-- a packet, or the end of a frame
pub data PacketOrEnd : Type 0 where
  a_packet : GsePacket → PacketOrEnd
  frame_end : PacketOrEnd

-- those of the readable frames of an input stream, as a receiver has them
abbrev pub packets_and_end : List GsePacket → List PacketOrEnd
packets_and_end packets = map a_packet packets ++ frame_end ∷ []

abbrev pub packets_and_ends : ℕ → List (List ℕ) → List PacketOrEnd
packets_and_ends isi frames = flat_map (λ b. packets_and_end (packets_of (frame_fields b).field)) (frames_of isi frames)

-- the packets that begin a PDU, and how many frames end
abbrev pub begun : List PacketOrEnd → List GsePacket
begun [] = []
begun (a_packet p ∷ items) = first_one p ++ begun items
begun (frame_end ∷ items) = begun items

abbrev pub frames_ended : List PacketOrEnd → ℕ
frames_ended [] = 0
frames_ended (a_packet p ∷ items) = frames_ended items
frames_ended (frame_end ∷ items) = suc (frames_ended items)

-- a complete packet or a first fragment
abbrev pub begins_pdu : GsePacket → Bool
begins_pdu (complete_packet protocol label pdu) = true
begins_pdu (start_packet id total protocol label written pdu) = true
begins_pdu (middle_packet id pdu) = false
begins_pdu (end_packet id pdu crc) = false

-- the Frag ID of a first fragment; of a later one; of the last one
abbrev pub first_id : GsePacket → Option ℕ
first_id (complete_packet protocol label pdu) = None
first_id (start_packet id total protocol label written pdu) = Some id
first_id (middle_packet id pdu) = None
first_id (end_packet id pdu crc) = None

abbrev pub later_id : GsePacket → Option ℕ
later_id (complete_packet protocol label pdu) = None
later_id (start_packet id total protocol label written pdu) = None
later_id (middle_packet id pdu) = Some id
later_id (end_packet id pdu crc) = Some id

abbrev pub last_id : GsePacket → Option ℕ
last_id (complete_packet protocol label pdu) = None
last_id (start_packet id total protocol label written pdu) = None
last_id (middle_packet id pdu) = None
last_id (end_packet id pdu crc) = Some id

-- The Frag IDs of a service with urgent rules: those of ordinary PDUs are below 128, those of urgent ones are not. Profile: our own.

abbrev pub is_ordinary_id : Option ℕ → Bool
is_ordinary_id None = false
is_ordinary_id (Some id) = nat_lt id 128

abbrev pub is_urgent_id : Option ℕ → Bool
is_urgent_id None = false
is_urgent_id (Some id) = not (nat_lt id 128)

-- it does not end an ordinary PDU in fragments; nor any
abbrev pub ends_no_ordinary : PacketOrEnd → Bool
ends_no_ordinary (a_packet p) = not (is_ordinary_id (last_id p))
ends_no_ordinary frame_end = true

abbrev pub ends_none : PacketOrEnd → Bool
ends_none (a_packet p) = not (is_some (last_id p))
ends_none frame_end = true

-- the first of the PDUs, where there is one, is urgent
abbrev pub next_is_urgent : (Pdu → Bool) → List Pdu → Bool
next_is_urgent urgent [] = false
next_is_urgent urgent (pdu ∷ pdus) = urgent pdu

-- the PDUs that have not begun after these packets
abbrev pub not_begun : List Pdu → List PacketOrEnd → List Pdu
not_begun pdus items = drop (length (begun items)) pdus

-- What a sender of PDUs, some of them urgent, does: `start` is a first fragment, and up to the packet at hand its PDU has not ended.
pub record YieldsToUrgent (urgent : Pdu → Bool) (pdus : List Pdu) (items : List PacketOrEnd) : Type 0 where
  -- the PDUs begin in order: packet n of those that begin one begins number n
  pub in_order : BeginInOrder pdus (begun items)
  -- in fragments, an ordinary PDU has a Frag ID below 128, and an urgent one has not
  pub classes : (before after : List PacketOrEnd) (p : GsePacket) → items ≡ before ++ a_packet p ∷ after → is_some (first_id p) ≡ true
      → is_ordinary_id (first_id p) ≡ not (next_is_urgent urgent (not_begun pdus before))
  -- an urgent PDU goes on at once: each packet after its first fragment is the next of its fragments, up to its last
  pub goes_on : (before between after : List PacketOrEnd) (start p : GsePacket) → items ≡ before ++ a_packet start ∷ (between ++ a_packet p ∷ after)
      → is_urgent_id (first_id start) ≡ true → list_all ends_none between ≡ true → later_id p ≡ first_id start
  -- what begins before the end of an ordinary one is urgent, and begins fewer than 8 frames after the frame of its start
  pub begins : (before between after : List PacketOrEnd) (start p : GsePacket) → items ≡ before ++ a_packet start ∷ (between ++ a_packet p ∷ after)
      → is_ordinary_id (first_id start) ≡ true → list_all ends_no_ordinary between ≡ true → begins_pdu p ≡ true
      → (next_is_urgent urgent (not_begun pdus (before ++ a_packet start ∷ between)) ≡ true) × (frames_ended between < 8)
  -- and in these frames it does not go on while the next PDU is urgent: its rest waits
  pub waits : (before between after : List PacketOrEnd) (start p : GsePacket) → items ≡ before ++ a_packet start ∷ (between ++ a_packet p ∷ after)
      → is_ordinary_id (first_id start) ≡ true → list_all ends_no_ordinary between ≡ true → is_ordinary_id (later_id p) ≡ true → frames_ended between < 8
      → next_is_urgent urgent (not_begun pdus (before ++ a_packet start ∷ between)) ≡ false
