-- Sections (ISO/IEC 13818-1 clause 2.4.4): table_id in byte 0, section_syntax_indicator and section_length in bytes 1 and 2,
-- the body, the CRC_32.
use Rattle.std.specs.Prelude.{◌≡◌, ℕ, ◌+◌, ◌-◌, ◌*◌, ◌%◌, ◌^◌, ◌<◌, ◌≤◌, Bool, ◌&&◌, ◌||◌, List, ◌∷◌, ◌++◌, take, drop, length, slice_index, ◌==◌, nat_lt, nat_le, if◌then◌else◌}
use Rattle.std.specs.Int.{w16, w32, to_be_bytes}
use Rattle.wire_spec.specs.Bytes.{u16_at}
use Rattle.wire_spec.specs.Crc.{crc32_remainder, ends_with_crc}
use Rattle.ts_spec.specs.Form.{UnitForm, Span, more, stuffing, whole, bad}

-- section_syntax_indicator is 1 (ISO/IEC 13818-1 clause 2.4.4)
abbrev pub has_syntax : List ℕ → Bool
has_syntax b = nat_le 0x80 (slice_index b 1)

-- section_length: the bytes after it, the CRC_32 among them (ISO/IEC 13818-1 clause 2.4.4)
abbrev pub section_length : List ℕ → ℕ
section_length b = u16_at b 1 % 2 ^ 12

-- a length that no section has: above 4,093, or without room for a head of 5 bytes and the CRC_32 where section_syntax_indicator is 1 (ISO/IEC 13818-1 clause
-- 2.4.4)
abbrev pub has_bad_length : List ℕ → Bool
has_bad_length b = nat_lt 4093 (section_length b) || (has_syntax b && nat_lt (section_length b) 9)

-- what bytes tell of the section at their front: a table_id of FF is stuffing (ISO/IEC 13818-1 clause 2.4.4)
abbrev pub section_span : List ℕ → Span
section_span b =
    if slice_index b 0 == 0xFF then stuffing else
    if nat_lt (length b) 3 then more else
    if has_bad_length b then bad else
    whole (3 + section_length b)

-- the check of a section: section_syntax_indicator is 1, and CRC_32, over all before it, is right (ISO/IEC 13818-1 clause 2.4.4, annex A)
abbrev pub section_check : List ℕ → Bool
section_check b = has_syntax b && ends_with_crc b

-- sections as units of a transport stream (ISO/IEC 13818-1 clause 2.4.4)
abbrev pub section_form : UnitForm
section_form = record { start = 1; longest = 4096; span = section_span; check = section_check }

-- the bytes are as many as section_length says, which has room for a head and the CRC_32 (ISO/IEC 13818-1 clause 2.4.4)
abbrev pub has_right_length : List ℕ → Bool
has_right_length b = nat_le 9 (section_length b) && (nat_le (section_length b) 4093 && (length b == 3 + section_length b))

-- the bytes are a section (ISO/IEC 13818-1 clause 2.4.4)
abbrev pub is_section : List ℕ → Bool
is_section b = has_right_length b && section_check b

-- a section: its table_id, and what stands between section_length and the CRC_32 (ISO/IEC 13818-1 clause 2.4.4)
pub record SectionFields : Type 0 where
  pub table_id : ℕ
  pub body : List ℕ

abbrev pub section_fields : List ℕ → SectionFields
section_fields b = record { table_id = slice_index b 0; body = take (length b - 7) (drop 3 b) }

-- what a section can be written of: a table_id that is no stuffing, section_syntax_indicator 1 and the three bits after it as the upper half of a byte, and a
-- body that section_length counts beside the CRC_32 (ISO/IEC 13818-1 clause 2.4.4)
pub record IsWritableSection (table_id top : ℕ) (body : List ℕ) : Type 0 where
  pub table_id_is : table_id < 0xFF
  pub syntax : 0x80 ≤ top
  pub byte : top < 0x100
  pub upper_half : top % 16 ≡ 0
  pub least : 5 ≤ length body
  pub most : length body ≤ 4089

-- all before the CRC_32 (ISO/IEC 13818-1 clause 2.4.4)
abbrev pub section_front : ℕ → ℕ → List ℕ → List ℕ
section_front table_id top body = table_id ∷ to_be_bytes w16 (top * 256 + (length body + 4)) ++ body

-- the section with this table_id, upper half of byte 1 and body, as it is written (ISO/IEC 13818-1 clause 2.4.4)
abbrev pub section_bytes : ℕ → ℕ → List ℕ → List ℕ
section_bytes table_id top body =
    section_front table_id top body ++ to_be_bytes w32 (crc32_remainder 0xFFFF_FFFF (section_front table_id top body))
