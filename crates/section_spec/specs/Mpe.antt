-- Sections of multiprotocol encapsulation: datagram_section (EN 301 192 clause 7), MPE-FEC section (EN 301 192 clause 9).
-- Byte 0 of a body is byte 3 of its section. In both kinds, byte 2 of the body ends with current_next_indicator, bytes 3 and 4 are
-- section_number and last_section_number, and the datagram or the column begins at byte 9.
use Rattle.std.specs.Prelude.{◌≡◌, ◌⊎◌, ℕ, ◌+◌, ◌*◌, ◌/◌, ◌%◌, ◌^◌, ◌<◌, ◌≤◌, Bool, ◌&&◌, List, [], ◌∷◌, ◌++◌, take, drop, length, slice_index, ◌==◌, nat_le, if◌then◌else◌, Option, Some, None}
use Rattle.std.specs.Int.{w32, to_be_bytes}
use Rattle.wire_spec.specs.Bytes.{AreBytes, u32_at}
use Rattle.wire_spec.specs.Datagram.{IsDatagram, front_length}
use Rattle.section_spec.specs.Section.{SectionFields, section_bytes}

-- real_time_parameters: delta_t, 12 bits, table_boundary, frame_boundary, and address, 18 bits (EN 301 192 clause 9)
pub record RealTimeFields : Type 0 where
  pub delta : ℕ
  pub table_boundary : Bool
  pub frame_boundary : Bool
  pub address : ℕ

-- real_time_parameters in the number that their four bytes are (EN 301 192 clause 9)
abbrev pub real_time_of : ℕ → RealTimeFields
real_time_of n = record {
  delta = n / 2 ^ 20;
  table_boundary = n / 2 ^ 19 % 2 == 1;
  frame_boundary = n / 2 ^ 18 % 2 == 1;
  address = n % 2 ^ 18;
}

-- a bit at its place
abbrev pub bit_value : Bool → ℕ → ℕ
bit_value set place = if set then 2 ^ place else 0

-- the number that their four bytes are
abbrev pub real_time_number : RealTimeFields → ℕ
real_time_number t = t.delta * 2 ^ 20 + bit_value t.table_boundary 19 + bit_value t.frame_boundary 18 + t.address

-- delta_t has 12 bits, the address 18 (EN 301 192 clause 9)
pub record IsRealTime (t : RealTimeFields) : Type 0 where
  pub delta_below : t.delta < 2 ^ 12
  pub address_below : t.address < 2 ^ 18

-- current_next_indicator is 1 (EN 301 192 clauses 7, 9)
abbrev pub is_current : List ℕ → Bool
is_current body = slice_index body 2 % 2 == 1

-- a datagram_section: its address, MAC_address_1 first, its real_time_parameters, and its datagram (EN 301 192 clause 7). The first four bytes of the address
-- and the parameters are two readings of the same bytes
pub record MpeFields : Type 0 where
  pub mac : List ℕ
  pub real_time : RealTimeFields
  pub datagram : List ℕ

-- payload_scrambling_control and address_scrambling_control are 0 (EN 301 192 clause 7)
abbrev pub is_clear : List ℕ → Bool
is_clear body = slice_index body 2 / 4 % 16 == 0

-- LLC_SNAP_flag is 0 (EN 301 192 clause 7)
abbrev pub has_no_llc_snap : List ℕ → Bool
has_no_llc_snap body = slice_index body 2 / 2 % 2 == 0

-- section_number and last_section_number are 0 (EN 301 192 clause 7). Profile: a datagram stands in one section
abbrev pub is_only_section : List ℕ → Bool
is_only_section body = (slice_index body 3 == 0) && (slice_index body 4 == 0)

-- the head of a datagram_section that is read (EN 301 192 clause 7)
abbrev pub has_mpe_head : SectionFields → Bool
has_mpe_head s =
    (s.table_id == 0x3E) && (is_current s.body && (is_clear s.body && (has_no_llc_snap s.body && is_only_section s.body)))

-- MAC_address_1 to _4 in bytes 8 to 5, MAC_address_5 and _6 in bytes 1 and 0 (EN 301 192 clause 7)
abbrev pub mac_in : List ℕ → List ℕ
mac_in body =
    slice_index body 8 ∷ slice_index body 7 ∷ slice_index body 6 ∷ slice_index body 5 ∷ slice_index body 1 ∷ slice_index body 0 ∷ []

-- the fields of a body whose datagram has so many bytes; what stands after it is stuffing (EN 301 192 clause 7)
abbrev pub mpe_with : List ℕ → Option ℕ → Option MpeFields
mpe_with body None = None
mpe_with body (Some n) =
    Some (record { mac = mac_in body; real_time = real_time_of (u32_at body 5); datagram = take n (drop 9 body) })

-- what a section carries as a datagram_section, where it is one (EN 301 192 clause 7)
abbrev pub mpe_of : SectionFields → Option MpeFields
mpe_of s = if has_mpe_head s then mpe_with s.body (front_length (drop 9 s.body)) else None

-- the number in the four bytes that MAC_address_4 to _1 are (EN 301 192 clause 7)
abbrev pub mac_number : List ℕ → ℕ
mac_number mac = u32_at (slice_index mac 3 ∷ slice_index mac 2 ∷ slice_index mac 1 ∷ slice_index mac 0 ∷ []) 0

-- what a datagram_section can be written of: an address of six bytes that agrees with the parameters, and a datagram that section_length counts beside the head
-- and the CRC_32 (EN 301 192 clause 7)
pub record IsWritableMpe (m : MpeFields) : Type 0 where
  pub mac_bytes : AreBytes m.mac
  pub mac_size : length m.mac ≡ 6
  pub agrees : m.real_time ≡ real_time_of (mac_number m.mac)
  pub datagram_is : IsDatagram m.datagram
  pub size : length m.datagram ≤ 4080

-- the body that is written: reserved bits 1, current_next_indicator 1, all else in byte 2 is 0, and no stuffing (EN 301 192 clause 7)
abbrev pub mpe_body : MpeFields → List ℕ
mpe_body m =
    slice_index m.mac 5 ∷ slice_index m.mac 4 ∷ 0xC1 ∷ 0 ∷ 0
    ∷ slice_index m.mac 3 ∷ slice_index m.mac 2 ∷ slice_index m.mac 1 ∷ slice_index m.mac 0 ∷ m.datagram

-- the datagram_section of these fields, as it is written (EN 301 192 clause 7)
abbrev pub mpe_bytes : MpeFields → List ℕ
mpe_bytes m = section_bytes 0x3E 0xB0 (mpe_body m)

-- the address whose first four bytes read as these parameters, and whose last two are those of another (EN 301 192 clauses 7, 9)
abbrev pub mac_with : RealTimeFields → List ℕ → List ℕ
mac_with t mac =
    real_time_number t % 256 ∷ real_time_number t / 2 ^ 8 % 256 ∷ real_time_number t / 2 ^ 16 % 256 ∷ real_time_number t / 2 ^ 24 % 256
    ∷ slice_index mac 4 ∷ slice_index mac 5 ∷ []

-- the fields of a datagram_section to an address, or with real_time_parameters in the place of its first four bytes (EN 301 192 clause 7)
abbrev pub mpe_to_write : List ℕ → Option RealTimeFields → List ℕ → MpeFields
mpe_to_write mac None datagram = record { mac = mac; real_time = real_time_of (mac_number mac); datagram = datagram }
mpe_to_write mac (Some t) datagram = record { mac = mac_with t mac; real_time = t; datagram = datagram }

-- an MPE-FEC section: padding_columns, section_number, last_section_number, real_time_parameters, and a column of RS data (EN 301 192 clause 9)
pub record FecFields : Type 0 where
  pub padding : ℕ
  pub number : ℕ
  pub last : ℕ
  pub real_time : RealTimeFields
  pub column : List ℕ

-- padding_columns are 190 at most, and there are 64 columns of RS data at most (EN 301 192 clause 9)
abbrev pub has_fec_numbers : List ℕ → Bool
has_fec_numbers body =
    nat_le (slice_index body 0) 190 && (nat_le (slice_index body 3) (slice_index body 4) && nat_le (slice_index body 4) 63)

-- an MPE-FEC section of a frame with so many rows (EN 301 192 clause 9)
abbrev pub is_fec : ℕ → SectionFields → Bool
is_fec rows s = (s.table_id == 0x78) && (is_current s.body && (has_fec_numbers s.body && (length s.body == 9 + rows)))

abbrev pub fec_fields : List ℕ → FecFields
fec_fields body = record {
  padding = slice_index body 0;
  number = slice_index body 3;
  last = slice_index body 4;
  real_time = real_time_of (u32_at body 5);
  column = drop 9 body;
}

-- what a section carries as an MPE-FEC section of a frame with so many rows, where it is one (EN 301 192 clause 9)
abbrev pub fec_of : ℕ → SectionFields → Option FecFields
fec_of rows s = if is_fec rows s then Some (fec_fields s.body) else None

-- the rows that an MPE-FEC frame can have: 256, 512, 768 or 1024 (EN 301 192 clause 9)
abbrev pub IsRows : ℕ → Type 0
IsRows rows = (rows ≡ 256) ⊎ ((rows ≡ 512) ⊎ ((rows ≡ 768) ⊎ (rows ≡ 1024)))

-- what an MPE-FEC section can be written of: its address is that of its column's first byte among the RS data (EN 301 192 clause 9)
pub record IsWritableFec (f : FecFields) : Type 0 where
  pub padding_most : f.padding ≤ 190
  pub number_most : f.number ≤ f.last
  pub last_most : f.last ≤ 63
  pub delta_below : f.real_time.delta < 2 ^ 12
  pub address_is : f.real_time.address ≡ f.number * length f.column
  pub rows : IsRows (length f.column)

-- the body that is written: reserved bits 1, current_next_indicator 1 (EN 301 192 clause 9)
abbrev pub fec_body : FecFields → List ℕ
fec_body f =
    f.padding ∷ 0xFF ∷ 0xFF ∷ f.number ∷ f.last ∷ to_be_bytes w32 (real_time_number f.real_time) ++ f.column

-- the MPE-FEC section of these fields, as it is written (EN 301 192 clause 9)
abbrev pub fec_bytes : FecFields → List ℕ
fec_bytes f = section_bytes 0x78 0xB0 (fec_body f)
