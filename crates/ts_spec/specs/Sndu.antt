-- SNDUs, the units of ULE (RFC 4326 section 4): D and Length in bytes 0 and 1, Type in 2 and 3,
-- the NPA address where D is 0, the PDU, the CRC-32.
use Rattle.std.specs.Prelude.{ℕ, ◌+◌, ◌-◌, ◌%◌, ◌^◌, Bool, false, ◌&&◌, List, [], ◌++◌, take, drop, length, slice_index, ◌==◌, nat_lt, nat_le, if◌then◌else◌, Option, Some, None}
use Rattle.std.specs.Int.{w16, w32, to_be_bytes}
use Rattle.wire_spec.specs.Bytes.{u16_at, six_at}
use Rattle.wire_spec.specs.Crc.{crc32_remainder, ends_with_crc}
use Rattle.ts_spec.specs.Form.{UnitForm, Span, more, stuffing, whole, bad}

-- D is set: there is no NPA address (RFC 4326 section 4.1)
abbrev pub lacks_address : List ℕ → Bool
lacks_address b = nat_le 0x80 (slice_index b 0)

-- Length: the bytes after Type, the CRC-32 among them (RFC 4326 section 4.2)
abbrev pub length_field : List ℕ → ℕ
length_field b = u16_at b 0 % 2 ^ 15

-- what follows Type at least: the CRC-32, 4 bytes, or 10 with an address (RFC 4326 sections 4.1, 4.5, 4.6)
abbrev pub least_length : List ℕ → ℕ
least_length b = if lacks_address b then 4 else 10

-- two bytes FF: the End Indicator, which is stuffing (RFC 4326 section 4.3)
abbrev pub is_end_indicator : List ℕ → Bool
is_end_indicator b = (slice_index b 0 == 0xFF) && (slice_index b 1 == 0xFF)

-- the span of the SNDU at the front of some bytes (RFC 4326 sections 4.1 to 4.3)
abbrev pub sndu_span : List ℕ → Span
sndu_span b =
    if nat_lt (length b) 2 then more else
    if is_end_indicator b then stuffing else
    if nat_lt (length_field b) (least_length b) then bad else
    whole (4 + length_field b)

-- SNDUs as units of a transport stream: 2 bytes in the first packet, at most 32,771 bytes, the CRC-32 over all before it (RFC 4326 section 4)
abbrev pub sndu_form : UnitForm
sndu_form = record { start = 2; longest = 32771; span = sndu_span; check = ends_with_crc }

-- the span is whole, of n bytes
abbrev pub is_whole_of : ℕ → Span → Bool
is_whole_of n (whole m) = m == n
is_whole_of n more = false
is_whole_of n stuffing = false
is_whole_of n bad = false

-- the bytes are as many as Length says (RFC 4326 section 4.2)
abbrev pub has_right_length : List ℕ → Bool
has_right_length b = is_whole_of (length b) (sndu_span b)

-- the bytes are an SNDU: as many as Length says, with the right CRC-32 (RFC 4326 section 4)
abbrev pub is_sndu : List ℕ → Bool
is_sndu b = has_right_length b && ends_with_crc b

-- an SNDU: its NPA address, its Type, and what stands after these and before the CRC-32 (RFC 4326 section 4)
pub record SnduFields : Type 0 where
  pub npa : Option (List ℕ)
  pub first_type : ℕ
  pub bytes : List ℕ

-- where the PDU begins: 4, or 10 after an address (RFC 4326 sections 4.1, 4.5)
abbrev pub pdu_start : List ℕ → ℕ
pdu_start b = if lacks_address b then 4 else 10

-- the fields at their places (RFC 4326 section 4)
abbrev pub sndu_fields : List ℕ → SnduFields
sndu_fields b = record {
  npa = if lacks_address b then None else Some (six_at b 4);
  first_type = u16_at b 2;
  bytes = take (length b - 4 - pdu_start b) (drop (pdu_start b) b);
}

-- the bytes of an address, where there is one (RFC 4326 section 4.5)
abbrev pub address_bytes : Option (List ℕ) → List ℕ
address_bytes None = []
address_bytes (Some npa) = npa

-- D and Length of an SNDU with this address and a PDU of so many bytes (RFC 4326 sections 4.1, 4.2)
abbrev pub head_number : Option (List ℕ) → ℕ → ℕ
head_number None size = 2 ^ 15 + (size + 4)
head_number (Some npa) size = length npa + size + 4

-- all before the CRC-32, as it is written (RFC 4326 section 4)
abbrev pub sndu_front : Option (List ℕ) → ℕ → List ℕ → List ℕ
sndu_front npa first_type pdu =
    to_be_bytes w16 (head_number npa (length pdu)) ++ to_be_bytes w16 first_type ++ address_bytes npa ++ pdu

-- the SNDU with this address, Type and PDU, as it is written (RFC 4326 section 4)
abbrev pub sndu_bytes : Option (List ℕ) → ℕ → List ℕ → List ℕ
sndu_bytes npa first_type pdu =
    sndu_front npa first_type pdu ++ to_be_bytes w32 (crc32_remainder 0xFFFF_FFFF (sndu_front npa first_type pdu))
