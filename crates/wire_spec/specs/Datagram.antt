-- IP datagrams (RFC 791 section 3.1, RFC 8200 section 3).
use Rattle.std.specs.Prelude.{◌≡◌, ◌≢◌, ◌⊎◌, ℕ, ◌+◌, ◌*◌, ◌/◌, ◌%◌, ◌≤◌, Bool, not, ◌&&◌, List, take, length, slice_index, ◌==◌, nat_le, if◌then◌else◌, Option, Some, None}
use Rattle.wire_spec.specs.Bytes.{u16_at}

-- Version, the first half byte (RFC 791 section 3.1, RFC 8200 section 3)
abbrev pub version : List ℕ → ℕ
version b = slice_index b 0 / 16

-- IPv4: the header's length in bytes, four times IHL, the second half byte (RFC 791 section 3.1)
abbrev pub header_length : List ℕ → ℕ
header_length b = 4 * (slice_index b 0 % 16)

-- IPv4: Total Length (RFC 791 section 3.1)
abbrev pub total_length : List ℕ → ℕ
total_length b = u16_at b 2

-- IPv6: the header's 40 bytes and Payload Length (RFC 8200 section 3)
abbrev pub ipv6_length : List ℕ → ℕ
ipv6_length b = 40 + u16_at b 4

-- an IPv4 datagram: Version 4, a header of 20 bytes or more within Total Length, and as many bytes as Total Length (RFC 791 section 3.1)
pub record IsIpv4 (b : List ℕ) : Type 0 where
  pub version_is : version b ≡ 4
  pub header : 20 ≤ header_length b
  pub holds_header : header_length b ≤ total_length b
  pub size : length b ≡ total_length b

-- an IPv6 datagram: Version 6, as many bytes as 40 and Payload Length, and no jumbogram (RFC 8200 section 3). A jumbogram has Payload Length 0 and a hop-by-hop
-- header (RFC 2675 section 3)
pub record IsIpv6 (b : List ℕ) : Type 0 where
  pub version_is : version b ≡ 6
  pub size : length b ≡ ipv6_length b
  pub no_jumbogram : u16_at b 4 + slice_index b 6 ≢ 0

-- an IPv4 datagram or an IPv6 datagram (RFC 791, RFC 8200)
abbrev pub IsDatagram : List ℕ → Type 0
IsDatagram b = IsIpv4 b ⊎ IsIpv6 b

-- the first n bytes are a datagram (RFC 791, RFC 8200)
pub record IsFront (b : List ℕ) (n : ℕ) : Type 0 where
  pub within : n ≤ length b
  pub datagram : IsDatagram (take n b)

-- an IPv4 datagram stands at the front (RFC 791 section 3.1)
abbrev pub has_ipv4_front : List ℕ → Bool
has_ipv4_front b =
    (version b == 4) && (nat_le 20 (header_length b) && (nat_le (header_length b) (total_length b) && nat_le (total_length b) (length b)))

-- an IPv6 datagram stands at the front (RFC 8200 section 3)
abbrev pub has_ipv6_front : List ℕ → Bool
has_ipv6_front b = (version b == 6) && (nat_le (ipv6_length b) (length b) && not (u16_at b 4 + slice_index b 6 == 0))

-- the length of the datagram at the front, where there is one (RFC 791, RFC 8200)
abbrev pub front_length : List ℕ → Option ℕ
front_length b =
    if has_ipv4_front b then Some (total_length b) else
    if has_ipv6_front b then Some (ipv6_length b) else
    None

-- EtherType of IPv4 datagrams: 0x0800 (RFC 4326 section 4.4)
abbrev pub ether_type_ipv4 : ℕ
ether_type_ipv4 = 0x0800

-- EtherType of IPv6 datagrams: 0x86DD (RFC 4326 section 4.4)
abbrev pub ether_type_ipv6 : ℕ
ether_type_ipv6 = 0x86DD

-- EtherType of a datagram, by its version (RFC 4326 section 4.4.2)
abbrev pub ether_type_of : List ℕ → ℕ
ether_type_of datagram = if version datagram == 4 then ether_type_ipv4 else ether_type_ipv6

-- the datagram at the front of what an EtherType announces, where it is of that version (RFC 4326 section 4.4)
abbrev pub datagram_of_type : ℕ → List ℕ → Option (List ℕ)
datagram_of_type ether_type b =
    if (ether_type == ether_type_ipv4) && has_ipv4_front b then Some (take (total_length b) b) else
    if (ether_type == ether_type_ipv6) && has_ipv6_front b then Some (take (ipv6_length b) b) else
    None
