-- What is written of a datagram: its EtherType, and the address of its receivers.
use Rattle.std.proofs.Common.{◌≡◌, inl, inr, ℕ, zero, suc, ◌+◌, ◌-◌, ◌%◌, ◌^◌, ◌<◌, ◌≤◌, Bool, true, false, cond, eqb, leb, List, [], ◌∷◌, length, take, drop, refl, ap, ◌∙◌, arith, Some}
use Rattle.std.specs.Prelude.{slice_index, slice_range, bytes_eq}
use Rattle.std.proofs.lemmas.List.{take_all}
use Rattle.wire_spec.specs.Bytes.{AreBytes, u16_at}
use Rattle.wire_spec.specs.Datagram.{version, header_length, total_length, ipv6_length, IsIpv4, IsIpv6, IsDatagram, datagram_of_type, ether_type_of}
use Rattle.ip_datagram.specs.declared.address.IpAddress.TheVariants.{V4, V6}
use Rattle.addr_rules.specs.Macs.{broadcast_mac, ipv4_group_mac, ipv6_group_mac, is_ipv4_group, mac_of_address}
use Rattle.ts_spec.specs.Chain.{chain_end, datagram_at}
use Rattle.stream_spec.specs.Units.{mac_for}
use Rattle.plan_spec.specs.Bytes.{IsMac}

so_eqb : (a b : ℕ) → a ≡ b → eqb a b ≡ true
so_eqb a b e = grind (arith, e)

not_eqb : (a b : ℕ) → (a ≡ b → ⊥) → eqb a b ≡ false
not_eqb a b e = grind (arith, e)

so_leb : (a b : ℕ) → a ≤ b → leb a b ≡ true
so_leb a b e = grind (arith, e)

-- EtherType announces the datagram
of_ipv4 : (datagram : List ℕ) → IsIpv4 datagram → datagram_of_type 0x0800 datagram ≡ Some datagram
of_ipv4 datagram is =
    rw (
      so_eqb (version datagram) 4 is.version_is,
      so_leb 20 (header_length datagram) is.header,
      so_leb (header_length datagram) (total_length datagram) is.holds_header,
      so_leb (total_length datagram) (length datagram) (omega (arith, is.size)),
    )
    (ap Some (take_all (total_length datagram) datagram (omega (arith, is.size))))

of_ipv6 : (datagram : List ℕ) → IsIpv6 datagram → datagram_of_type 0x86DD datagram ≡ Some datagram
of_ipv6 datagram is =
    rw (
      so_eqb (version datagram) 6 is.version_is,
      so_leb (ipv6_length datagram) (length datagram) (omega (arith, is.size)),
      not_eqb (u16_at datagram 4 + slice_index datagram 6) 0 is.no_jumbogram,
    )
    (ap Some (take_all (ipv6_length datagram) datagram (omega (arith, is.size))))

type_of_ipv4 : (datagram : List ℕ) → IsIpv4 datagram → ether_type_of datagram ≡ 0x0800
type_of_ipv4 datagram is = rw (so_eqb (version datagram) 4 is.version_is) refl

type_of_ipv6 : (datagram : List ℕ) → IsIpv6 datagram → ether_type_of datagram ≡ 0x86DD
type_of_ipv6 datagram is = rw (not_eqb (version datagram) 4 (λ four. omega (arith, four, is.version_is))) refl

pub type_below : (datagram : List ℕ) → IsDatagram datagram → ether_type_of datagram < 2 ^ 16
type_below datagram (inl is) = omega (arith, type_of_ipv4 datagram is)
type_below datagram (inr is) = omega (arith, type_of_ipv6 datagram is)

-- no extension header stands before the datagram
pub chain_gives : (datagram : List ℕ) → IsDatagram datagram → datagram_at (chain_end (ether_type_of datagram) datagram) ≡ Some datagram
chain_gives datagram (inl is) = ap (λ (t : ℕ). datagram_at (chain_end t datagram)) (type_of_ipv4 datagram is) ∙ of_ipv4 datagram is
chain_gives datagram (inr is) = ap (λ (t : ℕ). datagram_at (chain_end t datagram)) (type_of_ipv6 datagram is) ∙ of_ipv6 datagram is

-- Addresses of six bytes.

six_bytes : (a b c d e f : ℕ) → a < 256 → b < 256 → c < 256 → d < 256 → e < 256 → f < 256 → IsMac (a ∷ b ∷ c ∷ d ∷ e ∷ f ∷ [])
six_bytes a b c d e f of_a of_b of_c of_d of_e of_f = record { size = refl; bytes = each }
  where
    each : AreBytes (a ∷ b ∷ c ∷ d ∷ e ∷ f ∷ [])
    each zero x less = of_a
    each (suc zero) x less = of_b
    each (suc (suc zero)) x less = of_c
    each (suc (suc (suc zero))) x less = of_d
    each (suc (suc (suc (suc zero)))) x less = of_e
    each (suc (suc (suc (suc (suc zero))))) x less = of_f
    each (suc (suc (suc (suc (suc (suc n)))))) x less = absurd (omega (arith, less))

-- any place of a list of bytes, also after its end
byte_at : (bytes : List ℕ) → AreBytes bytes → (i : ℕ) → slice_index bytes i < 256
byte_at [] all i = omega arith
byte_at (b ∷ bytes) all zero = all 0 0 (omega arith)
byte_at (b ∷ bytes) all (suc i) = byte_at bytes (λ n x less. all (suc n) x (omega (arith, less))) i

pub taken_bytes : (n : ℕ) (bytes : List ℕ) → AreBytes bytes → AreBytes (take n bytes)
taken_bytes zero bytes all i x less = absurd (omega (arith, less))
taken_bytes (suc n) [] all i x less = absurd (omega (arith, less))
taken_bytes (suc n) (b ∷ bytes) all zero x less = all 0 x (omega arith)
taken_bytes (suc n) (b ∷ bytes) all (suc i) x less = taken_bytes n bytes (λ m y less2. all (suc m) y (omega (arith, less2))) i x (omega (arith, less))

pub dropped_bytes : (n : ℕ) (bytes : List ℕ) → AreBytes bytes → AreBytes (drop n bytes)
dropped_bytes zero bytes all = all
dropped_bytes (suc n) [] all = all
dropped_bytes (suc n) (b ∷ bytes) all = dropped_bytes n bytes (λ m y less. all (suc m) y (omega (arith, less)))

broadcast_is : IsMac broadcast_mac
broadcast_is = six_bytes 255 255 255 255 255 255 (omega arith) (omega arith) (omega arith) (omega arith) (omega arith) (omega arith)

of_four : (b unicast : List ℕ) → AreBytes b → IsMac unicast → IsMac (mac_of_address (V4 b) unicast)
of_four b unicast all is = by_tests (is_ipv4_group b) (bytes_eq b (255 ∷ 255 ∷ 255 ∷ 255 ∷ []))
  where
    by_tests : (group every : Bool) → IsMac (cond group (ipv4_group_mac b) (cond every broadcast_mac unicast))
    by_tests true every =
        six_bytes 1 0 94 (slice_index b 1 % 128) (slice_index b 2) (slice_index b 3) (omega arith) (omega arith) (omega arith) (omega arith) (byte_at b all 2) (byte_at b all 3)
    by_tests false true = broadcast_is
    by_tests false false = is

of_sixteen : (b unicast : List ℕ) → AreBytes b → IsMac unicast → IsMac (mac_of_address (V6 b) unicast)
of_sixteen b unicast all is = by_test (eqb (slice_index b 0) 255)
  where
    by_test : (group : Bool) → IsMac (cond group (ipv6_group_mac b) unicast)
    by_test true =
        six_bytes 51 51 (slice_index b 12) (slice_index b 13) (slice_index b 14) (slice_index b 15) (omega arith) (omega arith) (byte_at b all 12) (byte_at b all 13) (byte_at b all 14) (byte_at b all 15)
    by_test false = is

pub mac_for_is : (unicast datagram : List ℕ) → AreBytes datagram → IsMac unicast → IsMac (mac_for unicast datagram)
mac_for_is unicast datagram all is = by_version (eqb (version datagram) 4)
  where
    part : (from to : ℕ) → AreBytes (slice_range datagram from to)
    part from to = taken_bytes (to - from) (drop from datagram) (dropped_bytes from datagram all)

    by_version : (four : Bool) → IsMac (mac_of_address (cond four (V4 (slice_range datagram 16 20)) (V6 (slice_range datagram 24 40))) unicast)
    by_version true = of_four (slice_range datagram 16 20) unicast (part 16 20) is
    by_version false = of_sixteen (slice_range datagram 24 40) unicast (part 24 40) is
