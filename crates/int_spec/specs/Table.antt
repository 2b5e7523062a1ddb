-- The IP/MAC notification table (EN 301 192 clause 8.4): what it says, and the one section that is written of it.
use Rattle.std.specs.Prelude.{◌≡◌, ℕ, ◌+◌, ◌*◌, ◌/◌, ◌%◌, ◌^◌, ◌<◌, ◌≤◌, Bool, true, ◌&&◌, if◌then◌else◌, List, [], ◌∷◌, ◌++◌, length, fold, flat_map, slice_index, bit_xor, ◌==◌, nat_lt, All, Option, Some, None, IfSome}
use Rattle.std.specs.Int.{w16, to_be_bytes}
use Rattle.wire_spec.specs.Bytes.{AreBytes}
use Rattle.ip_datagram.specs.declared.address.IpAddress.{IpAddress}
use Rattle.ip_datagram.specs.declared.address.IpAddress.TheVariants.{V4, V6}
use Rattle.addr_rules.specs.Texts.{bit_count, address_bytes}
use Rattle.addr_rules.specs.declared.rules.Rule.{Rule}
use Rattle.section_spec.specs.Section.{section_bytes}
use Rattle.int_spec.specs.Descriptors.{target_ip_slash, target_ipv6_slash, stream_location, time_slice_fec_identifier}

-- an entry: the addresses that a stream is sent to, the stream's service and component, and the first three bytes of its time_slice_fec_identifier, where it
-- has one (EN 301 192 clause 8.4)
pub record EntryFields : Type 0 where
  pub rules : List Rule
  pub service_id : ℕ
  pub component_tag : ℕ
  pub slices : Option (List ℕ)

-- a table: its version_number and platform_id, the network, original network and transport stream of all its streams, its entries (EN 301 192 clause 8.4)
pub record TableFields : Type 0 where
  pub version : ℕ
  pub platform_id : ℕ
  pub network_id : ℕ
  pub original_network_id : ℕ
  pub transport_stream_id : ℕ
  pub entries : List EntryFields

-- the three bytes of platform_id (EN 301 192 clause 8.4)
abbrev pub three_bytes : ℕ → List ℕ
three_bytes n = n / 2 ^ 16 ∷ n / 2 ^ 8 % 256 ∷ n % 256 ∷ []

-- platform_id_hash: the exclusive or of the three bytes of platform_id (EN 301 192 clause 8.4)
abbrev pub hash_of : List ℕ → ℕ
hash_of b = bit_xor (bit_xor (slice_index b 0) (slice_index b 1)) (slice_index b 2)

-- a descriptor of this tag and content (EN 301 192 clause 8.4)
abbrev pub descriptor_bytes : ℕ → List ℕ → List ℕ
descriptor_bytes tag content = tag ∷ length content ∷ content

-- a loop of this content; reserved bits are 1 (EN 301 192 clause 8.4)
abbrev pub loop_bytes : List ℕ → List ℕ
loop_bytes content = to_be_bytes w16 (0xF000 + length content) ++ content

-- the tag of the descriptors that have rules of this address's version, and how many rules one has room for in 255 bytes
abbrev pub tag_of : IpAddress → ℕ
tag_of (V4 address) = target_ip_slash
tag_of (V6 address) = target_ipv6_slash

abbrev pub most_rules : IpAddress → ℕ
most_rules (V4 address) = 51
most_rules (V6 address) = 15

-- a rule after those of a descriptor goes into it: they are of its version, and there is room
abbrev pub goes_into : List Rule → Rule → Bool
goes_into [] rule = true
goes_into (first ∷ others) rule = (tag_of first.address == tag_of rule.address) && nat_lt (1 + length others) (most_rules rule.address)

-- a rule after those of some descriptors goes into the last, or begins a new one
abbrev pub with_rule : List (List Rule) → Rule → List (List Rule)
with_rule [] rule = (rule ∷ []) ∷ []
with_rule (last ∷ []) rule = if goes_into last rule then (last ++ rule ∷ []) ∷ [] else last ∷ (rule ∷ []) ∷ []
with_rule (group ∷ next ∷ others) rule = group ∷ with_rule (next ∷ others) rule

-- rules, one after another, by descriptors: neighbours of one version, as many as 255 bytes hold
abbrev pub rule_groups : List Rule → List (List Rule)
rule_groups rules = fold with_rule [] rules

-- an address and a slash
abbrev pub rule_bytes : Rule → List ℕ
rule_bytes rule = address_bytes rule.address ++ rule.slash ∷ []

-- the descriptor of rules that are of one version
abbrev pub group_bytes : List Rule → List ℕ
group_bytes [] = []
group_bytes (first ∷ others) = descriptor_bytes (tag_of first.address) (flat_map rule_bytes (first ∷ others))

-- the contents of a target loop (EN 301 192 clause 8.4)
abbrev pub target_bytes : List Rule → List ℕ
target_bytes rules = flat_map group_bytes (rule_groups rules)

-- where the stream of an entry is: the content of its IP/MAC_stream_location_descriptor
abbrev pub location_bytes : TableFields → EntryFields → List ℕ
location_bytes table entry =
    to_be_bytes w16 table.network_id ++ to_be_bytes w16 table.original_network_id ++ to_be_bytes w16 table.transport_stream_id
    ++ to_be_bytes w16 entry.service_id ++ entry.component_tag ∷ []

-- the time_slice_fec_identifier_descriptor of an entry, where it has one
abbrev pub slices_bytes : Option (List ℕ) → List ℕ
slices_bytes None = []
slices_bytes (Some slices) = descriptor_bytes time_slice_fec_identifier slices

-- the contents of an operational loop (EN 301 192 clause 8.4)
abbrev pub operational_bytes : TableFields → EntryFields → List ℕ
operational_bytes table entry = descriptor_bytes stream_location (location_bytes table entry) ++ slices_bytes entry.slices

-- an entry: a target loop and an operational loop (EN 301 192 clause 8.4)
abbrev pub entry_bytes : TableFields → EntryFields → List ℕ
entry_bytes table entry = loop_bytes (target_bytes entry.rules) ++ loop_bytes (operational_bytes table entry)

-- all before the loops: action_type, platform_id_hash, reserved bits with version_number and current_next_indicator, section_number, last_section_number,
-- platform_id, processing_order (EN 301 192 clause 8.4)
abbrev pub head_bytes : TableFields → List ℕ
head_bytes table =
    0x01 ∷ hash_of (three_bytes table.platform_id) ∷ (0xC1 + 2 * table.version) ∷ 0 ∷ 0 ∷ three_bytes table.platform_id ++ 0 ∷ []

-- the body of the section: the head, the platform loop, which is empty, and the entries (EN 301 192 clause 8.4)
abbrev pub table_body : TableFields → List ℕ
table_body table = head_bytes table ++ loop_bytes [] ++ flat_map (entry_bytes table) table.entries

-- the section (EN 301 192 clause 8.4)
abbrev pub table_bytes : TableFields → List ℕ
table_bytes table = section_bytes 0x4C 0xF0 (table_body table)

-- the bytes of an address are as many as its version has
abbrev pub address_size : IpAddress → ℕ
address_size (V4 address) = 4
address_size (V6 address) = 16

pub record IsRule (rule : Rule) : Type 0 where
  pub bytes : AreBytes (address_bytes rule.address)
  pub size : length (address_bytes rule.address) ≡ address_size rule.address
  pub slash : rule.slash ≤ bit_count rule.address

pub record IsSlices (slices : List ℕ) : Type 0 where
  pub bytes : AreBytes slices
  pub three : length slices ≡ 3

pub record IsWritableEntry (entry : EntryFields) : Type 0 where
  pub rules : All IsRule entry.rules
  pub service_id : entry.service_id < 2 ^ 16
  pub component_tag : entry.component_tag < 2 ^ 8
  pub slices : IfSome entry.slices IsSlices

-- what a table can be written of
pub record IsWritable (table : TableFields) : Type 0 where
  pub version : table.version < 2 ^ 5
  pub platform_id : table.platform_id < 2 ^ 24
  pub network_id : table.network_id < 2 ^ 16
  pub original_network_id : table.original_network_id < 2 ^ 16
  pub transport_stream_id : table.transport_stream_id < 2 ^ 16
  pub entries : All IsWritableEntry table.entries
  pub size : length (table_bytes table) ≤ 4096

-- the table that its section carries: without entries there is none that tells the network, original network and transport stream
abbrev pub carried_with : List EntryFields → TableFields → TableFields
carried_with [] table = record table { network_id = 0; original_network_id = 0; transport_stream_id = 0 }
carried_with (entry ∷ entries) table = table

abbrev pub as_carried : TableFields → TableFields
as_carried table = carried_with table.entries table
