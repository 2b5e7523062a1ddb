-- The address that a datagram is sent to has six bytes.
use Rattle.std.proofs.Common.{◌≡◌, ℕ, zero, suc, ◌-◌, ◌%◌, ◌<◌, Bool, true, false, cond, eqb, List, [], ◌∷◌, length, take, drop, refl, arith}
use Rattle.std.specs.Prelude.{slice_index, slice_range, bytes_eq}
use Rattle.std.proofs.lemmas.List.Elements.{All-cons, All-head, All-nil, All-tail}
use Rattle.wire_spec.specs.Bytes.{AreBytes}
use Rattle.wire_spec.specs.Datagram.{version}
use Rattle.ip_datagram.specs.declared.address.IpAddress.TheVariants.{V4, V6}
use Rattle.addr_rules.specs.Macs.{broadcast_mac, ipv4_group_mac, ipv6_group_mac, is_ipv4_group, mac_of_address}
use Rattle.stream_spec.specs.Units.{mac_for}

record IsMac (mac : List ℕ) : Type 0 where
  pub bytes : AreBytes mac
  pub size : length mac ≡ 6

six_bytes : (a b c d e f : ℕ) → a < 256 → b < 256 → c < 256 → d < 256 → e < 256 → f < 256 → IsMac (a ∷ b ∷ c ∷ d ∷ e ∷ f ∷ [])
six_bytes a b c d e f la lb lc ld le lf = record {
  bytes = All-cons P a (b ∷ c ∷ d ∷ e ∷ f ∷ []) la (All-cons P b (c ∷ d ∷ e ∷ f ∷ []) lb (All-cons P c (d ∷ e ∷ f ∷ []) lc
      (All-cons P d (e ∷ f ∷ []) ld (All-cons P e (f ∷ []) le (All-cons P f [] lf (All-nil P))))));
  size = refl;
}
  where
    P : ℕ → Type 0
    P x = x < 256

byte_at : (bytes : List ℕ) → AreBytes bytes → (i : ℕ) → slice_index bytes i < 256
byte_at [] all i = omega arith
byte_at (b ∷ bytes) all zero = all 0 0 (omega arith)
byte_at (b ∷ bytes) all (suc i) = byte_at bytes (All-tail (λ (x : ℕ). x < 256) b bytes all) i

taken_bytes : (n : ℕ) (bytes : List ℕ) → AreBytes bytes → AreBytes (take n bytes)
taken_bytes zero bytes all = All-nil (λ (x : ℕ). x < 256)
taken_bytes (suc n) [] all = All-nil (λ (x : ℕ). x < 256)
taken_bytes (suc n) (b ∷ bytes) all =
    All-cons (λ (x : ℕ). x < 256) b (take n bytes) (All-head (λ (x : ℕ). x < 256) b bytes all) (taken_bytes n bytes (All-tail (λ (x : ℕ). x < 256) b bytes all))

dropped_bytes : (n : ℕ) (bytes : List ℕ) → AreBytes bytes → AreBytes (drop n bytes)
dropped_bytes zero bytes all = all
dropped_bytes (suc n) [] all = all
dropped_bytes (suc n) (b ∷ bytes) all = dropped_bytes n bytes (All-tail (λ (x : ℕ). x < 256) b bytes all)

mac_is : (unicast datagram : List ℕ) → AreBytes datagram → IsMac unicast → IsMac (mac_for unicast datagram)
mac_is unicast datagram all is = by_version (eqb (version datagram) 4)
  where
    part : (from to : ℕ) → AreBytes (slice_range datagram from to)
    part from to = taken_bytes (to - from) (drop from datagram) (dropped_bytes from datagram all)

    broadcast_is : IsMac broadcast_mac
    broadcast_is = six_bytes 255 255 255 255 255 255 (omega arith) (omega arith) (omega arith) (omega arith) (omega arith) (omega arith)

    of_four : (b : List ℕ) → AreBytes b → (group every : Bool) → IsMac (cond group (ipv4_group_mac b) (cond every broadcast_mac unicast))
    of_four b bytes true every =
        six_bytes 1 0 94 (slice_index b 1 % 128) (slice_index b 2) (slice_index b 3) (omega arith) (omega arith) (omega arith) (omega arith) (byte_at b bytes 2) (byte_at b bytes 3)
    of_four b bytes false true = broadcast_is
    of_four b bytes false false = is

    of_sixteen : (b : List ℕ) → AreBytes b → (group : Bool) → IsMac (cond group (ipv6_group_mac b) unicast)
    of_sixteen b bytes true =
        six_bytes 51 51 (slice_index b 12) (slice_index b 13) (slice_index b 14) (slice_index b 15)
        (omega arith) (omega arith) (byte_at b bytes 12) (byte_at b bytes 13) (byte_at b bytes 14) (byte_at b bytes 15)
    of_sixteen b bytes false = is

    by_version : (four : Bool) → IsMac (mac_of_address (cond four (V4 (slice_range datagram 16 20)) (V6 (slice_range datagram 24 40))) unicast)
    by_version true =
        let b : List ℕ = slice_range datagram 16 20 in
        of_four b (part 16 20) (is_ipv4_group b) (bytes_eq b (255 ∷ 255 ∷ 255 ∷ 255 ∷ []))
    by_version false = let b : List ℕ = slice_range datagram 24 40 in of_sixteen b (part 24 40) (eqb (slice_index b 0) 255)

pub mac_bytes : (unicast datagram : List ℕ) → AreBytes datagram → AreBytes unicast → length unicast ≡ 6 → AreBytes (mac_for unicast datagram)
mac_bytes unicast datagram all bytes size = (mac_is unicast datagram all (record { bytes = bytes; size = size })).bytes

pub mac_size : (unicast datagram : List ℕ) → AreBytes datagram → AreBytes unicast → length unicast ≡ 6 → length (mac_for unicast datagram) ≡ 6
mac_size unicast datagram all bytes size = (mac_is unicast datagram all (record { bytes = bytes; size = size })).size
