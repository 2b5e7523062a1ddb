-- What the first bytes tell of the length of a datagram (RFC 791 section 3.1, RFC 8200 section 3).
use Rattle.std.specs.Prelude.{ℕ, ◌+◌, ◌||◌, List, length, slice_index, ◌==◌, nat_lt, if◌then◌else◌}
use Rattle.wire_spec.specs.Bytes.{u16_at}
use Rattle.wire_spec.specs.Datagram.{version, header_length, total_length, ipv6_length}
use Rattle.ip_datagram.specs.declared.hint.Hint.{Hint}
use Rattle.ip_datagram.specs.declared.hint.Hint.TheVariants.{More, Padding, Length, Bad}

-- what the first bytes of an IPv4 datagram tell of its length: IHL below 5 and a Total Length below the header's are of no datagram (RFC 791 section 3.1)
abbrev pub ipv4_hint : List ℕ → Hint
ipv4_hint b =
    if nat_lt (length b) 4 then More else
    if nat_lt (header_length b) 20 || nat_lt (total_length b) (header_length b) then Bad else
    Length (total_length b)

-- what the first bytes of an IPv6 datagram tell of its length: a jumbogram is refused (RFC 8200 section 3)
abbrev pub ipv6_hint : List ℕ → Hint
ipv6_hint b =
    if nat_lt (length b) 7 then More else
    if u16_at b 4 + slice_index b 6 == 0 then Bad else
    Length (ipv6_length b)

-- what a prefix tells: more bytes are needed, padding, where Version is 0, a length, or no datagram (RFC 791 section 3.1, RFC 8200 section 3)
abbrev pub hint_of : List ℕ → Hint
hint_of b =
    if length b == 0 then More else
    if version b == 0 then Padding else
    if version b == 4 then ipv4_hint b else
    if version b == 6 then ipv6_hint b else
    Bad
