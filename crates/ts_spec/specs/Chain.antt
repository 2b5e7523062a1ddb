-- Chains of extension headers (RFC 4326 section 5): each optional header ends with the next Type.
-- At the end stand a datagram, or a bridged Ethernet frame (sections 4.7 and 5.2).
use Rattle.std.specs.Prelude.{◌≡◌, ℕ, zero, suc, ◌+◌, ◌-◌, ◌*◌, ◌/◌, ◌^◌, ◌<◌, Bool, true, false, ◌&&◌, List, [], ◌∷◌, ◌++◌, length, nat_lt, nat_le, if◌then◌else◌, All, Option, Some, None, ◌==◌}
use Rattle.std.specs.Int.{w16, to_be_bytes}
use Rattle.wire_spec.specs.Datagram.{datagram_of_type}

-- the Type of an optional header: H-LEN, its upper byte, is 1 to 5 (RFC 4326 section 5)
abbrev pub is_optional : ℕ → Bool
is_optional type_field = nat_le 0x0100 type_field && nat_lt type_field 0x0600

-- the bytes of an optional header after its Type: H-LEN words of 16 bits, the last of which is the next Type (RFC 4326 section 5)
abbrev pub header_size : ℕ → ℕ
header_size type_field = 2 * (type_field / 256)

-- an optional header: its Type, and its bytes before the next Type (RFC 4326 section 5)
pub record Header : Type 0 where
  pub type_field : ℕ
  pub contents : List ℕ

-- the header is an optional one, of the size that H-LEN says (RFC 4326 section 5)
pub record IsOptional (header : Header) : Type 0 where
  pub optional : is_optional header.type_field ≡ true
  pub size : length header.contents + 2 ≡ header_size header.type_field

-- the first Type of these headers, where a last Type stands after them (RFC 4326 section 5)
abbrev pub first_type_of : List Header → ℕ → ℕ
first_type_of [] last_type = last_type
first_type_of (header ∷ headers) last_type = header.type_field

-- the bytes after the first Type, where these bytes stand after the last (RFC 4326 section 5)
abbrev pub chain_bytes : List Header → ℕ → List ℕ → List ℕ
chain_bytes [] last_type behind = behind
chain_bytes (header ∷ headers) last_type behind =
    header.contents ++ to_be_bytes w16 (first_type_of headers last_type) ++ chain_bytes headers last_type behind

-- a first Type and bytes are optional headers, a last Type, and the bytes after that (RFC 4326 section 5)
pub record Leads (first_type : ℕ) (bytes : List ℕ) (last_type : ℕ) (behind : List ℕ) : Type 0 where
  pub headers : List Header
  pub optional : All IsOptional headers
  pub first : first_type ≡ first_type_of headers last_type
  pub spelled : bytes ≡ chain_bytes headers last_type behind
  pub sixteen_bits : last_type < 2 ^ 16

-- the end of a chain: a Type that is no optional header's, with the bytes after it, or an optional header that is cut (RFC 4326 sections 4.4, 5)
pub data ChainEnd : Type 0 where
  ended : ℕ → List ℕ → ChainEnd
  cut : ChainEnd

-- optional headers, and then the Type of one that the bytes do not hold (RFC 4326 section 5)
pub record IsCutChain (first_type : ℕ) (bytes : List ℕ) : Type 0 where
  pub last_type : ℕ
  pub behind : List ℕ
  pub leads : Leads first_type bytes last_type behind
  pub optional : is_optional last_type ≡ true
  pub few : length behind < header_size last_type

-- this is the end of the chain (RFC 4326 section 5)
abbrev pub IsEnd : ℕ → List ℕ → ChainEnd → Type 0
IsEnd first_type bytes (ended last_type behind) = Leads first_type bytes last_type behind × (is_optional last_type ≡ false)
IsEnd first_type bytes cut = IsCutChain first_type bytes

-- the end as a function: from within an optional header with so many words of 16 bits before the next Type (RFC 4326 section 5)
abbrev pub end_behind : ℕ → List ℕ → ChainEnd
end_behind words [] = cut
end_behind words (x ∷ []) = cut
end_behind zero (x ∷ y ∷ bytes) =
    if is_optional (x * 256 + y) then end_behind ((x * 256 + y) / 256 - 1) bytes else ended (x * 256 + y) bytes
end_behind (suc words) (x ∷ y ∷ bytes) = end_behind words bytes

-- the end of the chain that a Type begins, as a function (RFC 4326 section 5)
abbrev pub chain_end : ℕ → List ℕ → ChainEnd
chain_end first_type bytes = if is_optional first_type then end_behind (first_type / 256 - 1) bytes else ended first_type bytes

-- the datagram that the EtherType at the end announces, where it stands there (RFC 4326 sections 4.4, 4.7)
abbrev pub datagram_at : ChainEnd → Option (List ℕ)
datagram_at cut = None
datagram_at (ended last_type behind) = datagram_of_type last_type behind

-- all bytes after Type 1, where they hold an Ethernet header of 14 bytes (RFC 4326 section 5.2)
abbrev pub frame_at : ChainEnd → Option (List ℕ)
frame_at cut = None
frame_at (ended last_type behind) = if (last_type == 1) && nat_le 14 (length behind) then Some behind else None
