-- Why a chain leads to no EtherType, and why no datagram stands after it.
use Rattle.std.specs.Prelude.{ℕ, List, ◌==◌, nat_le, if◌then◌else◌, Option, Some, None}
use Rattle.wire_spec.specs.Datagram.{version, ether_type_ipv4, ether_type_ipv6}
use Rattle.ip_datagram.specs.Refusal.{refusal}
use Rattle.ip_datagram.specs.declared.header.IpFault.{IpFault}
use Rattle.ip_datagram.specs.declared.header.IpFault.TheVariants as ip
use Rattle.ts_spec.specs.Chain.{ChainEnd, ended, cut}
use Rattle.ule_extension.specs.declared.chain.ExtFault.{ExtFault}
use Rattle.ule_extension.specs.declared.chain.ExtFault.TheVariants as ext
use Rattle.ule_extension.specs.declared.payload.PayloadFault.{PayloadFault}
use Rattle.ule_extension.specs.declared.payload.PayloadFault.TheVariants as payload

-- a Type that is neither an optional header's nor an EtherType: Test (0), Bridged (1), Mandatory (any other) (RFC 4326 sections 5, 5.1, 5.2)
abbrev pub mandatory_fault : ℕ → ExtFault
mandatory_fault last_type =
    if last_type == 0 then ext.Test else
    if last_type == 1 then ext.Bridged else
    ext.Mandatory last_type

-- why the end of a chain is no EtherType: it is cut, or a mandatory header's Type (RFC 4326 section 5)
abbrev pub ext_refusal : ChainEnd → Option ExtFault
ext_refusal cut = Some ext.Cut
ext_refusal (ended last_type behind) = if nat_le 0x0600 last_type then None else Some (mandatory_fault last_type)

-- why no datagram of this version stands at the front of the bytes (RFC 791, RFC 8200)
abbrev pub version_refusal : ℕ → List ℕ → Option IpFault → Option PayloadFault
version_refusal announced bytes (Some fault) = Some (payload.Datagram fault)
version_refusal announced bytes None = if version bytes == announced then None else Some (payload.Datagram ip.Version)

-- why an EtherType announces no datagram at the front of the bytes (RFC 4326 section 4.7)
abbrev pub ip_refusal : ℕ → List ℕ → Option PayloadFault
ip_refusal ether_type bytes =
    if ether_type == ether_type_ipv4 then version_refusal 4 bytes (refusal bytes) else
    if ether_type == ether_type_ipv6 then version_refusal 6 bytes (refusal bytes) else
    Some payload.NotIp

-- why no datagram stands after a chain with this end (RFC 4326 sections 4.7, 5)
abbrev pub payload_refusal : ChainEnd → Option PayloadFault
payload_refusal cut = Some (payload.Extension ext.Cut)
payload_refusal (ended last_type behind) =
    if nat_le 0x0600 last_type then ip_refusal last_type behind else Some (payload.Extension (mandatory_fault last_type))
