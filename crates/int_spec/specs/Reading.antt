-- Which bytes are an IP/MAC notification table (EN 301 192 clause 8.4), the table that they carry, and why others are none.
-- Byte 0 of a body is byte 3 of its section.
use Rattle.std.specs.Prelude.{◌≡◌, ℕ, ◌+◌, ◌*◌, ◌/◌, ◌%◌, ◌^◌, Bool, true, false, ◌&&◌, List, [], ◌∷◌, take, drop, filter, find, flat_map, slice_index, ◌==◌, option_map}
use Rattle.std.specs.List.{AllZip}
use Rattle.wire_spec.specs.Bytes.{u16_at}
use Rattle.section_spec.specs.Section.{SectionFields, is_section, section_fields}
use Rattle.section_spec.specs.Mpe.{is_current, is_only_section}
use Rattle.int_spec.specs.Descriptors.{tag, stream_location, time_slice_fec_identifier, is_loop, rules_of, AreBytesOf, Holds}
use Rattle.int_spec.specs.Table.{EntryFields, TableFields, hash_of}

-- table_id, action_type and current_next_indicator are those of a table in force (EN 301 192 clause 8.4)
abbrev pub is_table : SectionFields → Bool
is_table s = (s.table_id == 0x4C) && ((slice_index s.body 0 == 0x01) && is_current s.body)

-- the number in the three bytes of platform_id (EN 301 192 clause 8.4)
abbrev pub platform_id_of : List ℕ → ℕ
platform_id_of body = slice_index body 5 * 2 ^ 16 + u16_at body 6

-- platform_id_hash is that of platform_id (EN 301 192 clause 8.4)
abbrev pub has_right_hash : List ℕ → Bool
has_right_hash body = slice_index body 1 == hash_of (drop 5 body)

-- version_number (EN 301 192 clause 8.4)
abbrev pub version_of : List ℕ → ℕ
version_of body = slice_index body 2 / 2 % 2 ^ 5

-- the loops of a table: that of the platform, then a target loop and an operational loop for each entry (EN 301 192 clause 8.4)
pub record LoopPair : Type 0 where
  pub target : List ℕ
  pub operational : List ℕ

pub record Loops : Type 0 where
  pub platform : List ℕ
  pub pairs : List LoopPair

abbrev pub all_loops : Loops → List (List ℕ)
all_loops loops = loops.platform ∷ flat_map (λ pair. pair.target ∷ pair.operational ∷ []) loops.pairs

-- the body holds these loops after its head of 9 bytes (EN 301 192 clause 8.4)
abbrev pub HasLoops : List ℕ → Loops → Type 0
HasLoops body loops = AreBytesOf is_loop (drop 9 body) (all_loops loops)

-- the descriptor is an IP/MAC_stream_location_descriptor
abbrev pub is_location : List ℕ → Bool
is_location b = tag b == stream_location

-- the descriptor is a time_slice_fec_identifier_descriptor
abbrev pub is_identifier : List ℕ → Bool
is_identifier b = tag b == time_slice_fec_identifier

-- two loops carry an entry: the rules of all descriptors in the target loop, the one location in the operational loop, and the first time_slice_fec_identifier
-- there (EN 301 192 clause 8.4)
pub record CarriesEntry (table : TableFields) (pair : LoopPair) (entry : EntryFields) : Type 0 where
  pub target : List (List ℕ)
  pub operational : List (List ℕ)
  pub location : List ℕ
  pub in_target : Holds pair.target target
  pub in_operational : Holds pair.operational operational
  pub rules : entry.rules ≡ flat_map rules_of target
  pub one_location : filter is_location operational ≡ location ∷ []
  pub network_id : table.network_id ≡ u16_at location 2
  pub original_network_id : table.original_network_id ≡ u16_at location 4
  pub transport_stream_id : table.transport_stream_id ≡ u16_at location 6
  pub service_id : entry.service_id ≡ u16_at location 8
  pub component_tag : entry.component_tag ≡ slice_index location 10
  pub slices : entry.slices ≡ option_map (λ b. take 3 (drop 2 b)) (find is_identifier operational)

-- the network, original network and transport stream of a table are 0
pub record HasNoNetwork (table : TableFields) : Type 0 where
  pub network_id : table.network_id ≡ 0
  pub original_network_id : table.original_network_id ≡ 0
  pub transport_stream_id : table.transport_stream_id ≡ 0

-- a body with these loops carries a table (EN 301 192 clause 8.4)
pub record CarriesTable (body : List ℕ) (loops : Loops) (table : TableFields) : Type 0 where
  pub version : table.version ≡ version_of body
  pub platform_id : table.platform_id ≡ platform_id_of body
  pub platform : List (List ℕ)
  pub in_platform : Holds loops.platform platform
  pub entries : AllZip (CarriesEntry table) loops.pairs table.entries
  pub without_entries : table.entries ≡ [] → HasNoNetwork table

-- what the tests of a section find, each where those before it find nothing
pub data Reading : Type 0 where
  no_section : Reading
  no_table : Reading
  no_loops : Reading
  no_descriptors : Reading
  wrong_hash : Reading
  more_sections : Reading
  carried : TableFields → Reading

-- bytes that are a section of a table (EN 301 192 clause 8.4)
pub record IsOfTable (b : List ℕ) : Type 0 where
  pub section : is_section b ≡ true
  pub table_is : is_table (section_fields b) ≡ true

-- bytes that are one, with these loops
pub record IsInLoops (b : List ℕ) (loops : Loops) : Type 0 where
  pub of_table : IsOfTable b
  pub in_loops : HasLoops (section_fields b).body loops

-- bytes that are one, with loops that carry this table
pub record IsDescribed (b : List ℕ) (table : TableFields) : Type 0 where
  pub loops : Loops
  pub in_loops : IsInLoops b loops
  pub carries : CarriesTable (section_fields b).body loops table

-- bytes that are an IP/MAC notification table (EN 301 192 clause 8.4); Profile: in one section
pub record IsInt (b : List ℕ) (table : TableFields) : Type 0 where
  pub described : IsDescribed b table
  pub hash : has_right_hash (section_fields b).body ≡ true
  pub numbers : is_only_section (section_fields b).body ≡ true

-- the one reading of bytes: they are no section, or one of no table in force; they have no loops, or their loops carry no table;
-- platform_id_hash is another than that of platform_id; the table stands in several sections; or they carry a table
abbrev pub IsReading : List ℕ → Reading → Type 0
IsReading b no_section = is_section b ≡ false
IsReading b no_table = (is_section b ≡ true) × (is_table (section_fields b) ≡ false)
IsReading b no_loops = IsOfTable b × ((loops : Loops) → ¬ HasLoops (section_fields b).body loops)
IsReading b no_descriptors =
    (loops : Loops) × IsInLoops b loops × ((table : TableFields) → ¬ CarriesTable (section_fields b).body loops table)
IsReading b wrong_hash = (table : TableFields) × IsDescribed b table × (has_right_hash (section_fields b).body ≡ false)
IsReading b more_sections =
    (table : TableFields) × IsDescribed b table × (has_right_hash (section_fields b).body ≡ true) × (is_only_section (section_fields b).body ≡ false)
IsReading b (carried table) = IsInt b table
