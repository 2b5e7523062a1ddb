-- The datagrams of a sample are datagrams.
use Rattle.std.proofs.Common.{◌≡◌, ℕ, ◌+◌, ◌-◌, ◌*◌, ◌/◌, ◌%◌, ◌<◌, ◌≤◌, ◌^◌, List, ◌++◌, map, length, Option, Some, inl, refl, sym, subst, arith}
use Rattle.std.specs.Prelude.{All, IfSome}
use Rattle.std.specs.List.{range_with_len}
use Rattle.std.proofs.lemmas.List.FromFn.{length-map-range_with_len, get_or-map-range_with_len}
use Rattle.wire_spec.specs.Datagram.{IsDatagram}
use Rattle.sample_spec.specs.Datagrams.{service_drawn, length_drawn, head_of, bytes_after_head, datagram_drawn}

-- a head of this size, and as many bytes after it as are missing
pub is_datagram : (size service i : ℕ) → 20 ≤ size → size < 2 ^ 16 → IsDatagram (head_of size service ++ bytes_after_head i size)
is_datagram size service i least most =
    let all : size / 256 * 256 + size % 256 ≡ size = omega arith in
    let long : length (bytes_after_head i size) ≡ size - 20 = length-map-range_with_len (λ j. (i + j) % 256) 0 (size - 20) in
    inl (record {
      version_is = refl;
      header = omega arith;
      holds_header = omega (arith, all);
      size = omega (arith, all, long);
    })

-- the lengths that are drawn
length_least : (number i : ℕ) → 20 ≤ length_drawn number i
length_least number i = omega arith

length_most : (number i : ℕ) → length_drawn number i ≤ 1400
length_most number i = omega arith

pub is_datagram_drawn : (number i : ℕ) → IsDatagram (datagram_drawn number i)
is_datagram_drawn number i =
    is_datagram (length_drawn number i) (service_drawn number i) i (length_least number i) (omega (arith, length_most number i))

-- so all records have datagrams
pub all_datagrams : (number n : ℕ) → All (λ (datagram : Option (List ℕ)). IfSome datagram IsDatagram) (map (λ i. Some (datagram_drawn number i)) (range_with_len 0 n))
all_datagrams number n k d lt =
    let record_of : ℕ → Option (List ℕ) = λ i. Some (datagram_drawn number i) in
    subst (λ (datagram : Option (List ℕ)). IfSome datagram IsDatagram)
    (sym (get_or-map-range_with_len record_of 0 n k k d (omega (arith, lt, length-map-range_with_len record_of 0 n)) (omega arith)))
    (is_datagram_drawn number k)
