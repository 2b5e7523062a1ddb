-- The program map table (PMT, ISO/IEC 13818-1 clause 2.4.4.8): on which PID each stream of a program stands.
-- Byte 0 of a body is byte 3 of its section: program_number in bytes 0 and 1, version_number and current_next_indicator in 2,
-- section_number in 3, last_section_number in 4, PCR_PID in 5 and 6, program_info_length in 7 and 8, so many bytes of descriptors, then
-- the streams: stream_type, PID in two bytes, ES_info_length in two bytes, and so many bytes of descriptors.
use Rattle.std.specs.Prelude.{ℕ, ◌+◌, ◌%◌, ◌^◌, ◌<◌, ◌≤◌, Bool, not, ◌&&◌, ◌||◌, List, [], ◌∷◌, ◌++◌, take, drop, map, flat_map, find, length, slice_index, All, ◌==◌, nat_le, Option, None, Some, IfSome, option_map}
use Rattle.std.specs.List.{list_all}
use Rattle.std.specs.Int.{w16, to_be_bytes}
use Rattle.wire_spec.specs.Bytes.{u16_at}
use Rattle.section_spec.specs.Section.{section_fields, section_bytes}
use Rattle.int_spec.specs.Descriptors.{tag, is_descriptor}
use Rattle.int_spec.specs.Pieces.{descriptor_size, pieces}
use Rattle.psi_spec.specs.Psi.{is_psi_section, is_of_table, pid_in}

-- a stream, and the component_tag of its first stream_identifier_descriptor, where it has one (ISO/IEC 13818-1 clause 2.4.4.8, EN 300 468 clause 6.2.39)
pub record StreamFields : Type 0 where
  pub pid : ℕ
  pub tag : Option ℕ

-- what a PMT says: the program's number, and PID and component_tag of each stream (ISO/IEC 13818-1 clause 2.4.4.8)
pub record PmtFields : Type 0 where
  pub number : ℕ
  pub streams : List StreamFields

-- Descriptors.

-- stream_identifier_descriptor (EN 300 468 clause 6.2.39): component_tag in byte 2
abbrev pub stream_identifier : ℕ
stream_identifier = 0x52

-- a descriptor is whole, and a stream_identifier_descriptor has one byte
abbrev pub is_right : List ℕ → Bool
is_right b = is_descriptor b && (not (tag b == stream_identifier) || (slice_index b 1 == 1))

-- the descriptors of some bytes
abbrev pub descriptors_in : List ℕ → List (List ℕ)
descriptors_in bytes = pieces descriptor_size bytes

-- all descriptors of some bytes are right
abbrev pub are_right : List ℕ → Bool
are_right bytes = list_all is_right (descriptors_in bytes)

-- the descriptor is a stream_identifier_descriptor
abbrev pub is_identifier : List ℕ → Bool
is_identifier b = tag b == stream_identifier

-- Streams.

-- bytes of a body before its descriptors, and of a stream before its own
abbrev pub pmt_head : ℕ
pmt_head = 9

abbrev pub stream_head : ℕ
stream_head = 5

-- the size that a stream tells
abbrev pub stream_size : List ℕ → ℕ
stream_size b = stream_head + u16_at b 3 % 2 ^ 12

-- the stream is as long as it tells
abbrev pub is_stream : List ℕ → Bool
is_stream b = length b == stream_size b

-- program_info_length
abbrev pub info_size : List ℕ → ℕ
info_size body = u16_at body 7 % 2 ^ 12

-- the descriptors of the program
abbrev pub program_info : List ℕ → List ℕ
program_info body = take (info_size body) (drop pmt_head body)

-- the streams of a body, one after another
abbrev pub streams_part : List ℕ → List ℕ
streams_part body = drop (pmt_head + info_size body) body

-- the streams of a body
abbrev pub stream_pieces : List ℕ → List (List ℕ)
stream_pieces body = pieces stream_size (streams_part body)

-- the descriptors of a stream
abbrev pub stream_info : List ℕ → List ℕ
stream_info stream = drop stream_head stream

-- the component_tag of the first stream_identifier_descriptor of a stream
abbrev pub tag_of : List ℕ → Option ℕ
tag_of stream = option_map (λ b. slice_index b 2) (find is_identifier (descriptors_in (stream_info stream)))

-- what a stream says
abbrev pub stream_of : List ℕ → StreamFields
stream_of stream = record { pid = pid_in (u16_at stream 1); tag = tag_of stream }

-- Reading.

-- the descriptors of the program and all streams are whole
abbrev pub has_loops : List ℕ → Bool
has_loops body = nat_le (pmt_head + info_size body) (length body) && list_all is_stream (stream_pieces body)

-- all descriptors of a stream are right
abbrev pub has_right_info : List ℕ → Bool
has_right_info stream = are_right (stream_info stream)

-- all descriptors of the program and of its streams are right
abbrev pub has_descriptors : List ℕ → Bool
has_descriptors body = are_right (program_info body) && list_all has_right_info (stream_pieces body)

-- bytes are a PMT (ISO/IEC 13818-1 clause 2.4.4.8)
unfoldable pub is_pmt : List ℕ → Bool
is_pmt b =
    is_psi_section b && (is_of_table 0x02 (section_fields b) && (nat_le pmt_head (length (section_fields b).body)
    && (has_loops (section_fields b).body && has_descriptors (section_fields b).body)))

-- what the body of a PMT says
abbrev pub pmt_in_body : List ℕ → PmtFields
pmt_in_body body = record { number = u16_at body 0; streams = map stream_of (stream_pieces body) }

-- what a PMT says, of its bytes
abbrev pub pmt_fields : List ℕ → PmtFields
pmt_fields b = pmt_in_body (section_fields b).body

-- bytes are the PMT of the program of this number
abbrev pub is_pmt_of : ℕ → List ℕ → Bool
is_pmt_of number b = is_pmt b && ((pmt_fields b).number == number)

-- Writing.

pub record IsWritableStream (stream : StreamFields) : Type 0 where
  pub pid : stream.pid < 2 ^ 13
  pub tag : IfSome stream.tag (λ tag. tag < 2 ^ 8)

-- what a PMT can be written of
pub record IsWritablePmt (pmt : PmtFields) : Type 0 where
  pub number : pmt.number < 2 ^ 16
  pub streams : All IsWritableStream pmt.streams
  pub most : length pmt.streams ≤ 125

-- the stream_identifier_descriptor of a component_tag, where there is one
abbrev pub tag_bytes : Option ℕ → List ℕ
tag_bytes None = []
tag_bytes (Some tag) = stream_identifier ∷ 1 ∷ tag ∷ []

-- stream_type 0x80 (user private). Profile
abbrev pub stream_bytes : StreamFields → List ℕ
stream_bytes stream =
    0x80 ∷ to_be_bytes w16 (0xE000 + stream.pid) ++ to_be_bytes w16 (0xF000 + length (tag_bytes stream.tag)) ++ tag_bytes stream.tag

-- the body of a PMT that is written: version_number 0, current_next_indicator 1, no PCR, and no descriptors of the program; reserved bits are 1
abbrev pub pmt_body : PmtFields → List ℕ
pmt_body pmt = to_be_bytes w16 pmt.number ++ (0xC1 ∷ 0 ∷ 0 ∷ 0xFF ∷ 0xFF ∷ 0xF0 ∷ 0 ∷ flat_map stream_bytes pmt.streams)

-- the bytes of a PMT (ISO/IEC 13818-1 clause 2.4.4.8)
abbrev pub pmt_bytes : PmtFields → List ℕ
pmt_bytes pmt = section_bytes 0x02 0xB0 (pmt_body pmt)
