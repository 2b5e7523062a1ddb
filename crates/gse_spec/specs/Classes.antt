-- Urgent datagrams of a service, and the order in which its frames end its datagrams. Profile: all of it.
use Rattle.std.specs.Prelude.{ℕ, ◌+◌, Bool, not, ◌&&◌, List, [], ◌∷◌, ◌++◌, length, map, filter, nat_le}
use Rattle.std.specs.List.{list_any}
use Rattle.ip_datagram.specs.Destination.{destination_of}
use Rattle.addr_rules.specs.Bits.{is_match}
use Rattle.addr_rules.specs.declared.rules.Rule.{Rule}
use Rattle.gse_spec.specs.Written.{Writing}
use Rattle.gse_spec.specs.Reassembly.{PlacedPacket, Pdu, pdu_of, pdus_after}
use Rattle.gse_spec.specs.Received.{placed}
use Rattle.gse_spec.specs.Packing.{ClassIds}

-- one of the rules matches its destination, and it has at most 1,500 bytes
abbrev pub is_urgent : List Rule → List ℕ → Bool
is_urgent rules datagram = list_any (λ rule. is_match rule (destination_of datagram)) rules && nat_le (length datagram) 1500

abbrev pub is_urgent_pdu : List Rule → Pdu → Bool
is_urgent_pdu rules pdu = is_urgent rules pdu.bytes

-- a service without urgent rules has one class, with all 256 Frag IDs; another has two, with 128 each
abbrev pub ids_for : List Rule → ClassIds
ids_for [] = record { ordinary = record { first = 0; count = 256 }; urgent = record { first = 128; count = 128 } }
ids_for (rule ∷ rules) = record { ordinary = record { first = 0; count = 128 }; urgent = record { first = 128; count = 128 } }

-- the two classes: what is urgent, and all else
pub data Class : Type 0 where
  urgent_class : Class
  ordinary_class : Class

abbrev pub is_of_class : List Rule → Class → List ℕ → Bool
is_of_class rules urgent_class datagram = is_urgent rules datagram
is_of_class rules ordinary_class datagram = not (is_urgent rules datagram)

-- those of some datagrams that are of a class, in order; and of some PDUs
abbrev pub datagrams_of_class : List Rule → Class → List (List ℕ) → List (List ℕ)
datagrams_of_class rules class datagrams = filter (λ datagram. is_of_class rules class datagram) datagrams

abbrev pub pdus_of_class : List Rule → Class → List Pdu → List Pdu
pdus_of_class rules class pdus = filter (λ (pdu : Pdu). is_of_class rules class pdu.bytes) pdus

-- the packets of frames, the first of which stands at a place and is received as number h, from its packet i on
abbrev pub placed_frames : ℕ → ℕ → ℕ → List (List Writing) → List PlacedPacket
placed_frames place h i [] = []
placed_frames place h i (frame ∷ frames) = placed place h i (map (λ (w : Writing). w.packet) frame) ++ placed_frames (place + 1) (h + 1) 0 frames

-- the PDUs that the packets of frames end, in the order of their ends
abbrev pub ended_pdus : List (List Writing) → List Pdu
ended_pdus frames = map pdu_of (pdus_after [] (placed_frames 0 1 0 frames))
