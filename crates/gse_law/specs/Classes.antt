-- What packed frames end, class by class, and what they begin.
use Rattle.std.specs.Prelude.{◌≡◌, ℕ, ◌+◌, ◌<◌, List, [], ◌∷◌, ◌++◌, length, take, flat_map}
use Rattle.addr_rules.specs.declared.rules.Rule.{Rule}
use Rattle.gse_spec.specs.Packet.{GsePacket, complete_packet, start_packet, middle_packet, end_packet}
use Rattle.gse_spec.specs.Written.{label_bytes, Writing}
use Rattle.gse_spec.specs.Reassembly.{Pdu}
use Rattle.gse_spec.specs.Classes.{Class, datagrams_of_class, pdus_of_class, ended_pdus}
use Rattle.gse_law.specs.Packed.{last_packets}

-- the PDUs that packed frames end are these: those of each class in order; and as many as packets end one
pub record EndsInClasses (rules : List Rule) (frames : List (List Writing)) (pdus : List Pdu) : Type 0 where
  pub classes : (class : Class) → pdus_of_class rules class (ended_pdus frames) ≡ pdus_of_class rules class pdus
  pub counted : length (ended_pdus frames) ≡ length (last_packets frames)

-- these datagrams in another order: those of each class in the same one
pub record KeepsClasses (rules : List Rule) (datagrams order : List (List ℕ)) : Type 0 where
  pub classes : (class : Class) → datagrams_of_class rules class order ≡ datagrams_of_class rules class datagrams

-- the packets that begin a PDU, frame by frame
abbrev pub first_one : GsePacket → List GsePacket
first_one (complete_packet protocol label pdu) = complete_packet protocol label pdu ∷ []
first_one (start_packet id total protocol label written pdu) = start_packet id total protocol label written pdu ∷ []
first_one (middle_packet id pdu) = []
first_one (end_packet id pdu crc) = []

abbrev pub first_packets : List (List Writing) → List GsePacket
first_packets [] = []
first_packets (frame ∷ frames) = flat_map (λ (w : Writing). first_one w.packet) frame ++ first_packets frames

-- the packet has a PDU whole, or its Total Length, Protocol Type, label and first bytes, at least one
abbrev pub Begins : Pdu → GsePacket → Type 0
Begins pdu (complete_packet protocol label bytes) = (protocol ≡ pdu.protocol) × (label ≡ pdu.label) × (bytes ≡ pdu.bytes)
Begins pdu (start_packet id total protocol label written bytes) =
    (total ≡ 2 + length (label_bytes pdu.label) + length pdu.bytes) × (protocol ≡ pdu.protocol) × (label ≡ pdu.label)
    × (0 < length bytes) × (bytes ≡ take (length bytes) pdu.bytes)
Begins pdu (middle_packet id bytes) = ⊥
Begins pdu (end_packet id bytes crc) = ⊥

-- packets begin PDUs one after another: no more and no fewer
abbrev pub BeginInOrder : List Pdu → List GsePacket → Type 0
BeginInOrder [] [] = Unit {0}
BeginInOrder [] (p ∷ packets) = ⊥
BeginInOrder (pdu ∷ pdus) [] = ⊥
BeginInOrder (pdu ∷ pdus) (p ∷ packets) = Begins pdu p × BeginInOrder pdus packets
