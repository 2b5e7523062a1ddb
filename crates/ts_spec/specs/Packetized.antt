-- Units packetized into the packets of one PID (ISO/IEC 13818-1 clause 2.4.4, RFC 4326 section 6).
use Rattle.std.specs.Prelude.{◌≡◌, ◌⊎◌, ℕ, ◌+◌, ◌<◌, ◌≤◌, true, false, List, [], take, drop, length, slice_index, slice_index_or, flat_map}
use Rattle.ts_spec.specs.Form.{UnitForm, IsUnit}
use Rattle.ts_spec.specs.Packet.{PacketFields, continues, pointer, unit_bytes}

-- the packet without payload, for places where none is
abbrev pub no_packet : PacketFields
no_packet = record { pid = 0; starts = false; counter = 0; broken = false; payload = [] }

-- the packet at a place
abbrev pub packet_at : List PacketFields → ℕ → PacketFields
packet_at packets m = slice_index_or packets m no_packet

-- the unit at a place
abbrev pub unit_at : List (List ℕ) → ℕ → List ℕ
unit_at units n = slice_index_or units n []

-- the payloads without pointers, one after another
abbrev pub joined_payloads : List PacketFields → List ℕ
joined_payloads packets = flat_map unit_bytes packets

-- where the bytes of packet m begin among the joined payloads
unfoldable pub edge : List PacketFields → ℕ → ℕ
edge packets m = length (joined_payloads (take m packets))

-- the place lies in packet m
pub record IsIn (packets : List PacketFields) (m place : ℕ) : Type 0 where
  pub within : m < length packets
  pub from : edge packets m ≤ place
  pub below : place < edge packets (m + 1)

-- bytes FF from where a unit ends up to the end of the packet in which it ends (ISO/IEC 13818-1 clause 2.4.4, RFC 4326 section 4.3)
pub record IsStuffed (packets : List PacketFields) (end next : ℕ) : Type 0 where
  pub last : ℕ
  pub within : last < length packets
  pub ends_in : edge packets last < end
  pub before : end ≤ next
  pub up_to : next ≡ edge packets (last + 1)
  pub stuffed : (k : ℕ) → end ≤ k → k < next → slice_index (joined_payloads packets) k ≡ 0xFF

-- unit n is the first that starts in packet m
pub record IsFirstIn (units : List (List ℕ)) (packets : List PacketFields) (begin : ℕ → ℕ) (m n : ℕ) : Type 0 where
  pub unit : n < length units
  pub starts : IsIn packets m (begin n)
  pub first : (k : ℕ) → k < length units → IsIn packets m (begin k) → begin n ≤ begin k

-- the packets carry the units in order: counters, payloads, stuffing, start indicators and pointers (ISO/IEC 13818-1 clause 2.4.4, RFC 4326 section 6). begin n
-- is the place of unit n among the joined payloads
pub record Packetizes (form : UnitForm) (units : List (List ℕ)) (packets : List PacketFields) (begin : ℕ → ℕ) : Type 0 where
  pub each : (n : ℕ) → n < length units → IsUnit form (unit_at units n)
  pub continuous : (m : ℕ) → m + 1 < length packets → continues (packet_at packets m) (packet_at packets (m + 1)) ≡ true
  -- the joined payloads are the units in order, with stuffing after a unit up to the end of its packet
  pub from_zero : begin 0 ≡ 0
  pub bytes : (n : ℕ) → n < length units → take (length (unit_at units n)) (drop (begin n) (joined_payloads packets)) ≡ unit_at units n
  pub next : (n : ℕ) → n < length units → (begin (n + 1) ≡ begin n + length (unit_at units n)) ⊎ IsStuffed packets (begin n + length (unit_at units n)) (begin (n + 1))
  pub to_end : begin (length units) ≡ length (joined_payloads packets)
  -- the start indicator is set exactly where a unit starts; the pointer is the number of bytes before the first start
  pub starts : (m n : ℕ) → n < length units → IsIn packets m (begin n) → (packet_at packets m).starts ≡ true
  pub pointed : (m : ℕ) → m < length packets → (packet_at packets m).starts ≡ true
      → (n : ℕ) × IsFirstIn units packets begin m n × (edge packets m + pointer (packet_at packets m) ≡ begin n)
  -- the first packet has enough of the unit to tell its length
  pub enough : (m n : ℕ) → n < length units → IsIn packets m (begin n) → begin n + form.start ≤ edge packets (m + 1)
