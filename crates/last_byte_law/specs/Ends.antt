-- Where a unit or a PDU ends: its last bytes stand in one packet.
use Rattle.std.specs.Prelude.{◌≡◌, ℕ, ◌<◌, List, [], ◌∷◌, ◌++◌, length, take, drop, map, flat_map, true, All}
use Rattle.ts_spec.specs.Form.{UnitForm}
use Rattle.ts_spec.specs.Packet.{fields_of}
use Rattle.ts_spec.specs.Recording.{Record}
use Rattle.ts_spec.specs.Received.{Arrival, packet_of}
use Rattle.ts_spec.specs.Reassembly.{PlacedUnit, accepted_in}
use Rattle.gse_spec.specs.Packet.{GsePacket, complete_packet, start_packet, middle_packet, end_packet}
use Rattle.gse_spec.specs.Reassembly.{PlacedPacket, PlacedPdu, pdus_after}
use Rattle.gse_spec.specs.Received.{ends_pdu, received_pdus, carried_by_pdu, delivered_by_pdu}
use Rattle.plan_spec.specs.Plan.{ServiceFields}
use Rattle.reception_spec.specs.Units.{delivered_by_unit}
use Rattle.reception_spec.specs.Numbers.{units_of}

-- the unit ends in the payload: at some place stand bytes, one at least, that are its last ones
pub record EndsIn (payload unit : List ℕ) : Type 0 where
  pub before : List ℕ
  pub last : List ℕ
  pub unit_is : unit ≡ before ++ last
  pub some : 0 < length last
  pub place : ℕ
  pub stands : take (length last) (drop place payload) ≡ last

-- accepted units with the moments of their first packets
abbrev pub timed_units : List PlacedUnit → List (ℕ × List ℕ)
timed_units accepted = map (λ (a : PlacedUnit). (a.moment, a.unit)) accepted

-- the units that one packet more adds to the accepted ones: each ends in this packet
pub record AddsUnits (form : UnitForm) (packets : List Arrival) (next : Arrival) : Type 0 where
  pub units : List (ℕ × List ℕ)
  pub added : timed_units (accepted_in form (packets ++ next ∷ [])) ≡ timed_units (accepted_in form packets) ++ units
  pub ends : All (λ unit. EndsIn (packet_of next).payload unit.1) units

-- one record more gives these datagrams of a service: the wanted ones of the units that it adds, each of which ends in the record's packet
pub record GivesEnding (service : ServiceFields) (records : List Record) (r : Record) (given : List (List ℕ)) : Type 0 where
  pub units : List (List ℕ)
  pub added : units_of service (records ++ r ∷ []) ≡ units_of service records ++ units
  pub ends : All (EndsIn (fields_of r.bytes).payload) units
  pub given_is : given ≡ flat_map (delivered_by_unit service) units

-- the bytes of a PDU that a packet holds
abbrev pub bytes_in : GsePacket → List ℕ
bytes_in (complete_packet protocol label pdu) = pdu
bytes_in (start_packet id total protocol label written pdu) = pdu
bytes_in (middle_packet id pdu) = pdu
bytes_in (end_packet id pdu crc) = pdu

-- the PDU ends with this packet: a complete packet or a last fragment, whose bytes, of a last fragment perhaps none, are the PDU's last ones
pub record EndsWith (p : PlacedPacket) (x : PlacedPdu) : Type 0 where
  pub last : ends_pdu p.packet ≡ true
  pub place : x.place ≡ p.place
  pub index : x.index ≡ p.index
  pub before : List ℕ
  pub bytes_are : x.pdu.bytes ≡ before ++ bytes_in p.packet

-- the PDUs that one packet more adds to the received ones: each ends with this packet
pub record AddsPdus (packets : List PlacedPacket) (p : PlacedPacket) : Type 0 where
  pub pdus : List PlacedPdu
  pub added : pdus_after [] (packets ++ p ∷ []) ≡ pdus_after [] packets ++ pdus
  pub ends : All (EndsWith p) pdus

-- one frame more gives these datagrams on an input stream: those that a filter wants of the PDUs that it adds, each of which ends in this frame
pub record GivesEnded (filter : List (List ℕ)) (isi : ℕ) (frames : List (List ℕ)) (b : List ℕ) (given : List (List ℕ)) : Type 0 where
  pub pdus : List PlacedPdu
  pub added : received_pdus isi (frames ++ b ∷ []) ≡ received_pdus isi frames ++ pdus
  pub ends : All (λ (x : PlacedPdu). x.place ≡ length frames) pdus
  pub given_is : given ≡ flat_map (λ (x : PlacedPdu). delivered_by_pdu carried_by_pdu filter x.pdu) pdus
