-- What the bytes of an SNDU can be written of.
use Rattle.std.specs.Prelude.{◌≡◌, ℕ, ◌<◌, ◌≤◌, ◌^◌, List, ◌++◌, length, Option, Some, None}
use Rattle.std.specs.Int.{w16, to_be_bytes}
use Rattle.ts_spec.specs.Sndu.{address_bytes, head_number}

-- an address of 6 bytes (RFC 4326 section 4.5), or none
abbrev pub IsAddress : Option (List ℕ) → Type 0
IsAddress None = Unit {0}
IsAddress (Some npa) = length npa ≡ 6

-- an address or none, a Type of 16 bits, and a PDU that Length counts beside an address and the CRC-32 (RFC 4326 section 4.2)
pub record IsWritable (npa : Option (List ℕ)) (first_type : ℕ) (pdu : List ℕ) : Type 0 where
  pub address : IsAddress npa
  pub sixteen_bits : first_type < 2 ^ 16
  pub size : length pdu ≤ 32757

-- all before the PDU of an SNDU with this address and Type, where the PDU has so many bytes: D and Length, Type, and the address (RFC 4326 section 4)
abbrev pub sndu_head : Option (List ℕ) → ℕ → ℕ → List ℕ
sndu_head npa first_type size = to_be_bytes w16 (head_number npa size) ++ to_be_bytes w16 first_type ++ address_bytes npa
