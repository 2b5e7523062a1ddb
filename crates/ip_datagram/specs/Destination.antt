-- Destination Address of a datagram (RFC 791 section 3.1, RFC 8200 section 3).
use Rattle.std.specs.Prelude.{ℕ, List, ◌==◌, slice_range, if◌then◌else◌}
use Rattle.wire_spec.specs.Datagram.{version}
use Rattle.ip_datagram.specs.declared.address.IpAddress.{IpAddress}
use Rattle.ip_datagram.specs.declared.address.IpAddress.TheVariants.{V4, V6}

-- Destination Address: bytes 16 to 19 of IPv4, 24 to 39 of IPv6 (RFC 791 section 3.1, RFC 8200 section 3)
abbrev pub destination_of : List ℕ → IpAddress
destination_of b = if version b == 4 then V4 (slice_range b 16 20) else V6 (slice_range b 24 40)
