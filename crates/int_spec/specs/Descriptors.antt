-- Loops and descriptors (EN 301 192 clause 8.4), and the rules in descriptors.
use Rattle.std.specs.Prelude.{◌≡◌, ℕ, ◌+◌, ◌*◌, ◌/◌, ◌%◌, ◌^◌, Bool, true, ◌&&◌, List, [], map, take, drop, length, slice_index, ◌==◌, nat_le, if◌then◌else◌}
use Rattle.std.specs.List.{list_all, range_with_len}
use Rattle.wire_spec.specs.Bytes.{u16_at}
use Rattle.wire_spec.specs.Lists.{joined}
use Rattle.ip_datagram.specs.declared.address.IpAddress.{IpAddress}
use Rattle.ip_datagram.specs.declared.address.IpAddress.TheVariants.{V4, V6}
use Rattle.addr_rules.specs.Texts.{bit_count}
use Rattle.addr_rules.specs.declared.rules.Rule.{Rule}

-- a loop: 4 reserved bits, a length of 12 bits, and as many bytes after (EN 301 192 clause 8.4)
abbrev pub is_loop : List ℕ → Bool
is_loop b = length b == 2 + u16_at b 0 % 2 ^ 12

-- a descriptor: a tag, a length, and as many bytes after (EN 301 192 clause 8.4)
abbrev pub is_descriptor : List ℕ → Bool
is_descriptor b = length b == 2 + slice_index b 1

-- the tag of a descriptor (EN 301 192 clause 8.4)
abbrev pub tag : List ℕ → ℕ
tag descriptor = slice_index descriptor 0

-- target_IP_slash_descriptor: an address of 4 bytes and a slash, repeated (EN 301 192 clause 8.4)
abbrev pub target_ip_slash : ℕ
target_ip_slash = 0x0F

-- target_IPv6_slash_descriptor: an address of 16 bytes and a slash, repeated (EN 301 192 clause 8.4)
abbrev pub target_ipv6_slash : ℕ
target_ipv6_slash = 0x11

-- IP/MAC_stream_location_descriptor: network_id in bytes 2 and 3, original_network_id in 4 and 5, transport_stream_id in 6 and 7, service_id in 8 and 9,
-- component_tag in 10 (EN 301 192 clause 8.4)
abbrev pub stream_location : ℕ
stream_location = 0x13

-- time_slice_fec_identifier_descriptor (EN 301 192 clause 9.5); Profile: 3 bytes of it are kept
abbrev pub time_slice_fec_identifier : ℕ
time_slice_fec_identifier = 0x77

-- the rule at a place of a descriptor whose rules have addresses of n bytes (EN 301 192 clause 8.4)
abbrev pub rule_at : (List ℕ → IpAddress) → ℕ → List ℕ → ℕ → Rule
rule_at version n b i = record { address = version (take n (drop (2 + i * (n + 1)) b)); slash = slice_index b (2 + i * (n + 1) + n) }

-- its rules, as many as its length has room for (EN 301 192 clause 8.4)
abbrev pub rules_in : (List ℕ → IpAddress) → ℕ → List ℕ → List Rule
rules_in version n b = map (rule_at version n b) (range_with_len 0 (slice_index b 1 / (n + 1)))

-- the rules of a descriptor; those of other tags have none (EN 301 192 clause 8.4)
abbrev pub rules_of : List ℕ → List Rule
rules_of b =
    if tag b == target_ip_slash then rules_in V4 4 b else
    if tag b == target_ipv6_slash then rules_in V6 16 b else
    []

-- a slash is within the bits of its address
abbrev pub has_right_slash : Rule → Bool
has_right_slash rule = nat_le rule.slash (bit_count rule.address)

-- the length of a descriptor fits its tag; any length fits other tags (EN 301 192 clause 8.4)
abbrev pub has_fitting_length : List ℕ → Bool
has_fitting_length b =
    if tag b == target_ip_slash then slice_index b 1 % 5 == 0 else
    if tag b == target_ipv6_slash then slice_index b 1 % 17 == 0 else
    if tag b == stream_location then slice_index b 1 == 9 else
    if tag b == time_slice_fec_identifier then nat_le 3 (slice_index b 1) else
    true

-- a descriptor whose length fits its tag, and whose slashes are within the bits of their addresses (EN 301 192 clause 8.4)
abbrev pub is_right_descriptor : List ℕ → Bool
is_right_descriptor b = is_descriptor b && (has_fitting_length b && list_all has_right_slash (rules_of b))

-- bytes are these pieces, one after another, each of a kind
pub record AreBytesOf (kind : List ℕ → Bool) (bytes : List ℕ) (pieces : List (List ℕ)) : Type 0 where
  pub whole : bytes ≡ joined pieces
  pub each : list_all kind pieces ≡ true

-- the contents of a loop are these descriptors
abbrev pub Holds : List ℕ → List (List ℕ) → Type 0
Holds loop descriptors = AreBytesOf is_right_descriptor (drop 2 loop) descriptors
