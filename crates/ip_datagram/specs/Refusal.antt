-- Why bytes begin with no datagram (RFC 791 section 3.1, RFC 8200 section 3).
use Rattle.std.specs.Prelude.{ℕ, ◌+◌, Bool, not, ◌&&◌, ◌||◌, List, length, slice_index, ◌==◌, nat_lt, if◌then◌else◌, Option, Some, None}
use Rattle.wire_spec.specs.Bytes.{u16_at}
use Rattle.wire_spec.specs.Datagram.{version, header_length, total_length, ipv6_length}
use Rattle.ip_datagram.specs.declared.header.IpFault.{IpFault}
use Rattle.ip_datagram.specs.declared.header.IpFault.TheVariants as fault

-- no byte, or fewer than the least header of the version has (RFC 791 section 3.1, RFC 8200 section 3)
abbrev pub is_short : List ℕ → Bool
is_short b =
    (length b == 0) || (((version b == 4) && nat_lt (length b) 20) || ((version b == 6) && nat_lt (length b) 40))

-- Version is neither 4 nor 6 (RFC 791 section 3.1, RFC 8200 section 3)
abbrev pub has_other_version : List ℕ → Bool
has_other_version b = not ((version b == 4) || (version b == 6))

-- IPv4: IHL below 5 (RFC 791 section 3.1)
abbrev pub has_short_header : List ℕ → Bool
has_short_header b = (version b == 4) && nat_lt (header_length b) 20

-- IPv4: Total Length below the header's, or above the bytes that there are (RFC 791 section 3.1)
abbrev pub has_wrong_total : List ℕ → Bool
has_wrong_total b = (version b == 4) && (nat_lt (total_length b) (header_length b) || nat_lt (length b) (total_length b))

-- IPv6: its header says more bytes than there are (RFC 8200 section 3)
abbrev pub has_wrong_payload : List ℕ → Bool
has_wrong_payload b = (version b == 6) && nat_lt (length b) (ipv6_length b)

-- IPv6: Payload Length 0 and Next Header 0, a jumbogram (RFC 2675 section 3)
abbrev pub is_jumbogram : List ℕ → Bool
is_jumbogram b = (version b == 6) && (u16_at b 4 + slice_index b 6 == 0)

-- the first of these that holds
abbrev pub refusal : List ℕ → Option IpFault
refusal b =
    if is_short b then Some fault.Short else
    if has_other_version b then Some fault.Version else
    if has_short_header b then Some fault.HeaderLength else
    if has_wrong_total b || has_wrong_payload b then Some fault.Length else
    if is_jumbogram b then Some fault.Jumbo else
    None
