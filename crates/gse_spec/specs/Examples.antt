-- Small frames and packets, to try the definitions on.
use Rattle.std.specs.Prelude.{ℕ, List, [], ◌∷◌, ◌++◌, take, length, map, replicate, nat_le, false, Option, Some, None}
use Rattle.std.specs.Int.{w16, to_be_bytes}
use Rattle.wire_spec.specs.Crc.{crc8_remainder, crc32_remainder}
use Rattle.wire_spec.specs.Examples.{small_ipv4}
use Rattle.ip_datagram.specs.declared.address.IpAddress.TheVariants.{V4}
use Rattle.addr_rules.specs.declared.rules.Rule.{Rule}
use Rattle.addr_rules.specs.declared.filter.Label.{Label}
use Rattle.addr_rules.specs.declared.filter.Label.TheVariants.{Six, Broadcast}
use Rattle.gse_spec.specs.Frame.{frame_bytes}
use Rattle.gse_spec.specs.Packet.{GsePacket, start_packet}
use Rattle.gse_spec.specs.Written.{complete_bytes, start_bytes, middle_bytes, end_bytes, Writing, field_of}
use Rattle.gse_spec.specs.Reassembly.{PlacedPacket, Pdu}
use Rattle.gse_spec.specs.Packing.{ClassIds, packed}
use Rattle.gse_spec.specs.Classes.{ids_for}

-- Frames.

-- 300 bytes that begin with a MATYPE, UPL 0, a DFL, SYNC and SYNCD 0, and the right CRC-8
abbrev pub head_with : ℕ → ℕ → ℕ → List ℕ
head_with first second dfl = first ∷ second ∷ 0 ∷ 0 ∷ to_be_bytes w16 dfl ++ 0 ∷ 0 ∷ 0 ∷ []

abbrev pub frame_with : ℕ → ℕ → ℕ → List ℕ
frame_with first second dfl = head_with first second dfl ++ crc8_remainder (head_with first second dfl) ∷ replicate 290 0

-- Data fields.

-- an address, and a packet with a datagram of 20 bytes and that label
abbrev pub small_mac : List ℕ
small_mac = 0x01 ∷ 0x00 ∷ 0x5E ∷ 0x01 ∷ 0x02 ∷ 0x03 ∷ []

abbrev pub small_label : Label
small_label = Six small_mac

abbrev pub labelled_packet : List ℕ
labelled_packet = 0xC0 ∷ 0x1C ∷ 0x08 ∷ 0x00 ∷ 0x01 ∷ 0x00 ∷ 0x5E ∷ 0x01 ∷ 0x02 ∷ 0x03 ∷ small_ipv4

-- one that re-uses a label, one with a label of three bytes, one for all receivers
abbrev pub reusing_packet : List ℕ
reusing_packet = 0xF0 ∷ 0x16 ∷ 0x08 ∷ 0x00 ∷ small_ipv4

abbrev pub three_packet : List ℕ
three_packet = 0xD0 ∷ 0x19 ∷ 0x08 ∷ 0x00 ∷ 0x0A ∷ 0x0B ∷ 0x0C ∷ small_ipv4

abbrev pub broadcast_packet : List ℕ
broadcast_packet = 0xE0 ∷ 0x16 ∷ 0x08 ∷ 0x00 ∷ small_ipv4

-- Fragments.

-- the packet of the received frame of this number
abbrev pub in_frame : ℕ → GsePacket → PlacedPacket
in_frame frame_number p = record { place = frame_number; frame_number = frame_number; index = 0; packet = p }

-- a first fragment of 4 bytes, of a datagram of 20
abbrev pub small_start : GsePacket
small_start = start_packet 7 22 0x0800 Broadcast 0 (take 4 small_ipv4)

abbrev pub small_rest : List ℕ
small_rest = 0 ∷ 0 ∷ 0 ∷ 0 ∷ 0x40 ∷ 0x11 ∷ 0 ∷ 0 ∷ 10 ∷ 0 ∷ 0 ∷ 1 ∷ 239 ∷ 1 ∷ 2 ∷ 3 ∷ []

abbrev pub small_crc : ℕ
small_crc = crc32_remainder 0xFFFF_FFFF (to_be_bytes w16 22 ++ to_be_bytes w16 0x0800 ++ small_ipv4)

-- Total Length 30, with a label of 6 bytes and 18 bytes
abbrev pub long_start : GsePacket
long_start = start_packet 7 30 0x0800 small_label 6 (replicate 18 0)

-- the CRC-32 over Total Length, Protocol Type, label and 22 bytes
abbrev pub long_crc : ℕ
long_crc = crc32_remainder 0xFFFF_FFFF (0 ∷ 30 ∷ 0x08 ∷ 0x00 ∷ 0x01 ∷ 0x00 ∷ 0x5E ∷ 0x01 ∷ 0x02 ∷ 0x03 ∷ replicate 22 0)

-- Frames of one input stream.

-- a whole datagram in one packet
abbrev pub whole_field : List ℕ
whole_field = complete_bytes 0x0800 (Some Broadcast) small_ipv4

-- the same in three fragments over two frames
abbrev pub first_field : List ℕ
first_field = start_bytes 7 22 0x0800 Broadcast (0x45 ∷ 0 ∷ 0 ∷ 20 ∷ []) ++ middle_bytes 7 (0 ∷ 0 ∷ 0 ∷ 0 ∷ 0x40 ∷ 0x11 ∷ 0 ∷ 0 ∷ [])

abbrev pub last_field : List ℕ
last_field = end_bytes 7 (10 ∷ 0 ∷ 0 ∷ 1 ∷ 239 ∷ 1 ∷ 2 ∷ 3 ∷ []) small_crc

abbrev pub small_frames : List (List ℕ)
small_frames = frame_bytes 3 first_field 40 ∷ frame_bytes 3 (last_field ++ whole_field) 60 ∷ []

-- the first of them is damaged so that it is refused, and a frame of another input stream is between the two
abbrev pub damaged_frames : List (List ℕ)
damaged_frames = (0x51 ∷ replicate 39 0) ∷ frame_bytes 4 whole_field 60 ∷ frame_bytes 3 (last_field ++ whole_field) 60 ∷ []

-- a packet with an address, and one that re-uses it
abbrev pub reusing_frames : List (List ℕ)
reusing_frames = frame_bytes 3 (labelled_packet ++ reusing_packet) 70 ∷ []

-- a packet whose label to re-use is not there, before one that has its own; and a packet that is cut, after one
abbrev pub missing_label_frames : List (List ℕ)
missing_label_frames = frame_bytes 3 (reusing_packet ++ labelled_packet) 70 ∷ []

abbrev pub cut_packet_frames : List (List ℕ)
cut_packet_frames = frame_bytes 3 (labelled_packet ++ 0xEF ∷ 0xFF ∷ 8 ∷ 0 ∷ []) 70 ∷ []

-- Packing.

-- a rule that matches all IPv4 addresses
abbrev pub any_rule : Rule
any_rule = record { address = V4 (0 ∷ 0 ∷ 0 ∷ 0 ∷ []); slash = 0 }

-- a PDU of so many bytes with an address
abbrev pub long_pdu : ℕ → Pdu
long_pdu size = record { protocol = 0x0800; label = Six (1 ∷ 2 ∷ 3 ∷ 4 ∷ 5 ∷ 6 ∷ []); bytes = replicate size 0 }

-- how many bytes each data field has, and the first ones of it
abbrev pub field_sizes : List (List Writing) → List ℕ
field_sizes frames = map (λ (writings : List Writing). length (field_of writings)) frames

abbrev pub fronts : ℕ → List (List Writing) → List (List ℕ)
fronts size frames = map (λ (writings : List Writing). take size (field_of writings)) frames

-- Frag IDs of a service with one class, and of one with two
abbrev pub one_class : ClassIds
one_class = ids_for []

abbrev pub two_classes : ClassIds
two_classes = ids_for (any_rule ∷ [])

-- where no PDU is urgent, in frames of 300 bytes
abbrev pub packed_in_order : List Pdu → List (List Writing)
packed_in_order pdus = packed (λ _. false) one_class (λ _. 0) 290 pdus

-- where those of at most so many bytes are urgent
abbrev pub short_first : ℕ → List Pdu → List (List Writing)
short_first most pdus = packed (λ (pdu : Pdu). nat_le (length pdu.bytes) most) two_classes (λ _. 0) 290 pdus

-- 800 bytes, and then 40 that are urgent
abbrev pub urgent_frames : List (List Writing)
urgent_frames = short_first 100 (long_pdu 800 ∷ long_pdu 40 ∷ [])

-- 600 bytes, and then nine times 270 that are urgent
abbrev pub frames_that_yield : List (List Writing)
frames_that_yield = short_first 270 (long_pdu 600 ∷ replicate 9 (long_pdu 270))
