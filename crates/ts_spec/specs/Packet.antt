-- Transport packets (ISO/IEC 13818-1 clause 2.4.3.2).
use Rattle.std.specs.Prelude.{ℕ, ◌+◌, ◌*◌, ◌/◌, ◌%◌, Bool, not, ◌&&◌, ◌||◌, List, ◌∷◌, drop, length, replicate, slice_index, ◌==◌, nat_lt, nat_le, bit_and, if◌then◌else◌}

-- PID, start indicator, continuity counter, discontinuity indicator and payload of a packet: the fields that a reader of packets sees (ISO/IEC 13818-1 clause
-- 2.4.3.2)
pub record PacketFields : Type 0 where
  pub pid : ℕ
  -- payload_unit_start_indicator
  pub starts : Bool
  -- continuity_counter
  pub counter : ℕ
  -- discontinuity_indicator
  pub broken : Bool
  pub payload : List ℕ

-- sync_byte is not 0x47 (ISO/IEC 13818-1 clause 2.4.3.2)
abbrev pub lacks_sync : List ℕ → Bool
lacks_sync b = not (slice_index b 0 == 0x47)

-- transport_error_indicator is set (ISO/IEC 13818-1 clause 2.4.3.2)
abbrev pub is_marked : List ℕ → Bool
is_marked b = not (bit_and (slice_index b 1) 0x80 == 0)

-- adaptation_field_control, where it stands in byte 3 (ISO/IEC 13818-1 clause 2.4.3.2)
abbrev pub control : List ℕ → ℕ
control b = bit_and (slice_index b 3) 0x30

-- an adaptation field and a payload (ISO/IEC 13818-1 clause 2.4.3.2)
abbrev pub has_adaptation : List ℕ → Bool
has_adaptation b = control b == 0x30

-- the reserved control, or an adaptation_field_length that leaves no byte of payload (ISO/IEC 13818-1 clauses 2.4.3.3, 2.4.3.5)
abbrev pub has_bad_adaptation : List ℕ → Bool
has_bad_adaptation b = control b == 0 || (has_adaptation b && nat_lt 182 (slice_index b 4))

-- an adaptation field alone (ISO/IEC 13818-1 clause 2.4.3.3)
abbrev pub lacks_payload : List ℕ → Bool
lacks_payload b = control b == 0x20

-- transport_scrambling_control is not 00 (ISO/IEC 13818-1 clause 2.4.3.3)
abbrev pub is_scrambled : List ℕ → Bool
is_scrambled b = not (bit_and (slice_index b 3) 0xC0 == 0)

-- discontinuity_indicator is set, the upper bit after an adaptation_field_length of at least 1 (ISO/IEC 13818-1 clause 2.4.3.5)
abbrev pub is_broken : List ℕ → Bool
is_broken b = has_adaptation b && (nat_le 1 (slice_index b 4) && not (bit_and (slice_index b 5) 0x80 == 0))

-- where the payload begins (ISO/IEC 13818-1 clause 2.4.3.2)
abbrev pub payload_start : List ℕ → ℕ
payload_start b = if has_adaptation b then 5 + slice_index b 4 else 4

-- the values at the fixed positions (ISO/IEC 13818-1 clause 2.4.3.2)
unfoldable pub fields_of : List ℕ → PacketFields
fields_of b = record {
  pid = bit_and (slice_index b 1) 0x1F * 256 + slice_index b 2;
  starts = not (bit_and (slice_index b 1) 0x40 == 0);
  counter = bit_and (slice_index b 3) 0x0F;
  broken = is_broken b;
  payload = drop (payload_start b) b;
}

-- a packet that can be read: 188 bytes with sync_byte, unmarked, with a payload, not scrambled (ISO/IEC 13818-1 clause 2.4.3.2)
unfoldable pub is_packet : List ℕ → Bool
is_packet b =
    (length b == 188) && not (lacks_sync b || (is_marked b || (has_bad_adaptation b || (lacks_payload b || is_scrambled b))))

-- the packet with these fields and a payload of 184 bytes, as it is written: no adaptation field (ISO/IEC 13818-1 clause 2.4.3.2)
abbrev pub packet_bytes : ℕ → Bool → ℕ → List ℕ → List ℕ
packet_bytes pid starts counter payload =
    0x47 ∷ ((if starts then 0x40 else 0) + pid / 256) ∷ pid % 256 ∷ (0x10 + counter) ∷ payload

-- the null packet, of PID 0x1FFF, as it is written (ISO/IEC 13818-1 clause 2.4.3.3)
abbrev pub null_packet : List ℕ
null_packet = 0x47 ∷ 0x1F ∷ 0xFF ∷ 0x10 ∷ replicate 184 0xFF

-- the packet has the next counter after the other, and no discontinuity_indicator (ISO/IEC 13818-1 clauses 2.4.3.3, 2.4.3.5)
abbrev pub continues : PacketFields → PacketFields → Bool
continues before packet = (packet.counter == (before.counter + 1) % 16) && not packet.broken

-- pointer_field, the first byte of a payload in which a unit starts (ISO/IEC 13818-1 clause 2.4.4.2; RFC 4326 section 6)
abbrev pub pointer : PacketFields → ℕ
pointer packet = slice_index packet.payload 0

-- the pointer's bytes lie within the payload (ISO/IEC 13818-1 clause 2.4.4.2)
abbrev pub pointer_fits : PacketFields → Bool
pointer_fits packet = nat_le (1 + pointer packet) (length packet.payload)

-- the payload without the pointer (ISO/IEC 13818-1 clause 2.4.4.2)
abbrev pub unit_bytes : PacketFields → List ℕ
unit_bytes packet = if packet.starts then drop 1 packet.payload else packet.payload
