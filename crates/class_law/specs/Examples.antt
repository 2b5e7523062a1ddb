-- Small frames of a sender with two classes, and packets in orders that no such sender writes.
use Rattle.std.specs.Prelude.{ℕ, Bool, List, [], ◌∷◌, ◌++◌, map, length, replicate, flat_map, nat_le}
use Rattle.wire_spec.specs.Crc.{crc32_remainder}
use Rattle.gse_spec.specs.Packet.{GsePacket, complete_packet, start_packet, middle_packet, end_packet}
use Rattle.gse_spec.specs.Written.{Writing}
use Rattle.gse_spec.specs.Reassembly.{Pdu}
use Rattle.gse_spec.specs.Packing.{packed, first_fragment}
use Rattle.gse_spec.specs.Examples.{long_pdu, two_classes}
use Rattle.class_law.specs.Yielding.{PacketOrEnd, a_packet, frame_end}

-- frames as they are written
abbrev pub as_written : List (List Writing) → List PacketOrEnd
as_written [] = []
as_written (frame ∷ frames) = map (λ (w : Writing). a_packet w.packet) frame ++ frame_end ∷ as_written frames

-- PDUs of at most so many bytes are urgent; and what is written of PDUs in frames of 300 bytes
abbrev pub is_short : ℕ → Pdu → Bool
is_short most pdu = nat_le (length pdu.bytes) most

abbrev pub written_with : ℕ → List Pdu → List PacketOrEnd
written_with most pdus = as_written (packed (is_short most) two_classes (crc32_remainder 0xFFFF_FFFF) 290 pdus)

-- what each is: a complete packet, or a first, later or last fragment of a Frag ID, or the end of a frame
pub data Step : Type 0 where
  whole : Step
  first : ℕ → Step
  later : ℕ → Step
  last : ℕ → Step
  ends : Step

abbrev pub step_of : PacketOrEnd → Step
step_of (a_packet (complete_packet protocol label pdu)) = whole
step_of (a_packet (start_packet id total protocol label written pdu)) = first id
step_of (a_packet (middle_packet id pdu)) = later id
step_of (a_packet (end_packet id pdu crc)) = last id
step_of frame_end = ends

-- 800 bytes, and then 40 that are urgent; 600 bytes, and then nine times 270 that are urgent; 800 bytes, and then 300 that are urgent
abbrev pub short_after_long : List Pdu
short_after_long = long_pdu 800 ∷ long_pdu 40 ∷ []

abbrev pub nine_after_long : List Pdu
nine_after_long = long_pdu 600 ∷ replicate 9 (long_pdu 270)

abbrev pub middle_after_long : List Pdu
middle_after_long = long_pdu 800 ∷ long_pdu 300 ∷ []

-- Orders that are none of such a sender.

abbrev pub whole_of : Pdu → GsePacket
whole_of pdu = complete_packet pdu.protocol pdu.label pdu.bytes

-- the ordinary PDU to its end, and then the urgent one
abbrev pub urgent_last : List PacketOrEnd
urgent_last = a_packet (first_fragment 290 0 (long_pdu 800)) ∷ frame_end ∷ a_packet (end_packet 0 [] 0) ∷ a_packet (whole_of (long_pdu 40)) ∷ frame_end ∷ []

-- all nine urgent ones before the ordinary one goes on: two of them after eight frames have ended
abbrev pub nine_before_the_rest : List PacketOrEnd
nine_before_the_rest =
    a_packet (first_fragment 290 0 (long_pdu 600)) ∷ frame_end
    ∷ flat_map (λ (pdu : Pdu). a_packet (whole_of pdu) ∷ frame_end ∷ []) (replicate 9 (long_pdu 270))

-- a fragment of the ordinary one among those of the urgent one
abbrev pub fragments_mixed : List PacketOrEnd
fragments_mixed =
    a_packet (first_fragment 290 0 (long_pdu 800)) ∷ frame_end ∷ a_packet (first_fragment 290 128 (long_pdu 300)) ∷ frame_end
    ∷ a_packet (middle_packet 0 []) ∷ a_packet (end_packet 128 [] 0) ∷ frame_end ∷ []
