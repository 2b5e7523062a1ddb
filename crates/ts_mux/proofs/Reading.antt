-- The bytes of units that are not out, and the packets that carry them.
use Rattle.std.proofs.Common.{◌≡◌, ℕ, zero, suc, ◌+◌, ◌-◌, ◌*◌, ◌^◌, ◌<◌, ◌≤◌, get_or, Bool, true, false, cond, List, [], ◌∷◌, ◌++◌, length, map, take, drop, refl, sym, ap, ap₂, ◌∙◌, arith, length-drop, Some, None}
use Rattle.std.specs.Prelude.{slice_get}
use Rattle.std.proofs.lemmas.List.{length-append, length-take-le, take_at, drop_at, take-append-drop, take-append-le, drop-append-le, drop-take, drop-drop, take-take}
use Rattle.std.proofs.Math.Seq.{drop-append-add, drop-nil, take-append-add}
use borrow.Rule.Slice.PartMut.{put_mid}
use Rattle.ip_datagram.specs.declared.address.IpAddress.{IpAddress}
use Rattle.ip_datagram.specs.declared.address.IpAddress.TheVariants.{V4, V6}
use Rattle.ip_datagram.specs.Destination.{destination_of}
use Rattle.addr_rules.specs.Macs.{broadcast_mac, ipv4_group_mac, ipv6_group_mac, is_ipv4_group, mac_of_address}
use Rattle.std.specs.Prelude.{slice_index, bytes_eq, ◌==◌, is_some}
use Rattle.plan_spec.specs.Plan.{KindFields}
use Rattle.ule_unit.specs.Writable.{IsAddress}
use Rattle.stream_spec.specs.Units.{mac_for, unit_of}
use Rattle.stream_law.specs.Words.{is_single}
use Rattle.ts_spec.specs.Form.{UnitForm}
use Rattle.unit_stream.specs.Packing.{packetized}
use Rattle.unit_stream.specs.Packers.{PackerState, AreRising, IsOnWay, between, end_of, packets_left, units_of, with_bytes}
use Rattle.int_table.proofs.Parts.{drop_from}
use Rattle.ts_mux.specs.Units.{unit_bytes, unit_with, ends_from, AreFor}
use Rattle.ts_mux.specs.Reading.{IsBegun, IsSending, bytes_left}
use Rattle.ts_mux.specs.declared.unit_bytes.UnitBytes.{UnitBytes}
use Rattle.ts_mux.proofs.Held.{last_held, units_joined, packets_most}

-- Addresses of units.

length-mac : (address : IpAddress) (unicast : List ℕ) → length unicast ≡ 6 → length (mac_of_address address unicast) ≡ 6
length-mac (V4 b) unicast six = by_tests (is_ipv4_group b) (bytes_eq b (255 ∷ 255 ∷ 255 ∷ 255 ∷ []))
  where
    by_tests : (group every : Bool) → length (cond group (ipv4_group_mac b) (cond every broadcast_mac unicast)) ≡ 6
    by_tests true every = refl
    by_tests false true = refl
    by_tests false false = six
length-mac (V6 b) unicast six = by_test (slice_index b 0 == 0xFF)
  where
    by_test : (group : Bool) → length (cond group (ipv6_group_mac b) unicast) ≡ 6
    by_test true = refl
    by_test false = six

-- the address of an SNDU
pub npa_is : (address : Bool) (unicast datagram : List ℕ) → length unicast ≡ 6
    → IsAddress (cond address (Some (mac_for unicast datagram)) None) × (is_some (cond address (Some (mac_for unicast datagram)) None) ≡ address)
npa_is true unicast datagram six = (length-mac (destination_of datagram) unicast six, refl)
npa_is false unicast datagram six = (tt, refl)

-- where the last unit ends
pub last_end : (kind : KindFields) (unicast : List ℕ) (datagrams : List (List ℕ)) (ends : List ℕ) → ends ≡ ends_from 0 (map (unit_of kind unicast) datagrams)
    → end_of ends (length ends) ≡ length (unit_bytes kind unicast datagrams)
last_end kind unicast datagrams ends are =
    omega (arith, ap (λ (e : List ℕ). end_of e (length e)) are, last_held 0 (map (unit_of kind unicast) datagrams))

-- Pieces of a unit.

-- the bytes of a unit at a place before its datagram
pub at_head : (around datagram : List ℕ) (head at : ℕ) → head + 4 ≤ length around → at < head
    → take (head - at) (drop at (unit_with head around datagram)) ≡ take (head - at) (drop at around)
at_head around datagram head at fits before =
    let front : length (take head around) ≡ head = length-take-le head around (omega (arith, fits)) in
    let whole : at + (head - at) ≡ head = omega (arith, before) in
    let cut : drop at (take head around) ≡ take (head - at) (drop at around)
    = ap (λ (n : ℕ). drop at (take n around)) (sym whole) ∙ drop-take at (head - at) around in
    ap (take (head - at)) (drop-append-le at (take head around) (datagram ++ take 4 (drop head around)) (omega (arith, front, before)))
    ∙ take-append-le (head - at) (drop at (take head around)) (datagram ++ take 4 (drop head around)) (omega (arith, length-drop at (take head around), front))
    ∙ ap (take (head - at)) cut
    ∙ take-take (head - at) (head - at) (drop at around) (omega arith)

-- those after its head
behind_head : (around datagram : List ℕ) (head at : ℕ) → head + 4 ≤ length around → head ≤ at → drop at (unit_with head around datagram) ≡ drop (at - head) (datagram ++ take 4 (drop head around))
behind_head around datagram head at fits after =
    let front : length (take head around) ≡ head = length-take-le head around (omega (arith, fits)) in
    let there : at ≡ length (take head around) + (at - head) = omega (arith, front, after) in
    ap (λ (n : ℕ). drop n (unit_with head around datagram)) there
    ∙ drop-append-add (take head around) (datagram ++ take 4 (drop head around)) (at - head)

-- some of those of its datagram
pub in_datagram : (around datagram : List ℕ) (head at n : ℕ) → head + 4 ≤ length around → head ≤ at → at - head + n ≤ length datagram
    → take n (drop at (unit_with head around datagram)) ≡ take n (drop (at - head) datagram)
in_datagram around datagram head at n fits after within =
    ap (take n) (behind_head around datagram head at fits after ∙ drop-append-le (at - head) datagram (take 4 (drop head around)) (omega (arith, within)))
    ∙ take-append-le n (drop (at - head) datagram) (take 4 (drop head around)) (omega (arith, length-drop (at - head) datagram, within))

-- all that follow in its datagram
pub at_datagram : (around datagram : List ℕ) (head at : ℕ) → head + 4 ≤ length around → head ≤ at → at < head + length datagram
    → take (length datagram - (at - head)) (drop at (unit_with head around datagram)) ≡ take (length datagram - (at - head)) (drop (at - head) datagram)
at_datagram around datagram head at fits after before =
    in_datagram around datagram head at (length datagram - (at - head)) fits after (omega (arith, after, before))

-- those of the CRC-32
pub at_crc : (around datagram : List ℕ) (head at : ℕ) → head + 4 ≤ length around → head + length datagram ≤ at → at < head + length datagram + 4
    → take (head + 4 - (at - length datagram)) (drop at (unit_with head around datagram)) ≡ take (head + 4 - (at - length datagram)) (drop (at - length datagram) around)
at_crc around datagram head at fits after before =
    let k : ℕ = at - (head + length datagram) in
    let there : at - head ≡ length datagram + k = omega (arith, after) in
    let four : k + (4 - k) ≡ 4 = omega (arith, before, after) in
    let place : head + k ≡ at - length datagram = omega (arith, after) in
    let count : head + 4 - (at - length datagram) ≡ 4 - k = omega (arith, after, before) in
    ap (take (head + 4 - (at - length datagram)))
    (behind_head around datagram head at fits (omega (arith, after))
    ∙ ap (λ (n : ℕ). drop n (datagram ++ take 4 (drop head around))) there
    ∙ drop-append-add datagram (take 4 (drop head around)) k
    ∙ ap (λ (n : ℕ). drop k (take n (drop head around))) (sym four)
    ∙ drop-take k (4 - k) (drop head around)
    ∙ ap (take (4 - k)) (drop-drop k head around ∙ ap (λ (n : ℕ). drop n around) place))
    ∙ take-take (head + 4 - (at - length datagram)) (4 - k) (drop (at - length datagram) around) (omega (arith, count))

length-unit_with : (head : ℕ) (around datagram : List ℕ) → head + 4 ≤ length around → length (unit_with head around datagram) ≡ head + length datagram + 4
length-unit_with head around datagram fits =
    omega (
      arith,
      length-append (take head around) (datagram ++ take 4 (drop head around)),
      length-append datagram (take 4 (drop head around)),
      length-take-le head around (omega (arith, fits)),
      length-take-le 4 (drop head around) (omega (arith, length-drop head around, fits)),
    )

-- The bytes that are not out.

module _ (kind : KindFields) (unicast : List ℕ) (datagrams : List (List ℕ)) where
  -- where there are any, there is a datagram whose unit is not out
  pub more_left : (units : UnitBytes) → 0 < length (bytes_left kind unicast datagrams units) → units.count < length datagrams
  more_left units some = by_rest (drop units.count datagrams) (length-drop units.count datagrams) some
    where
      by_rest : (rest : List (List ℕ)) → length rest ≡ length datagrams - units.count → 0 < length (drop units.out (unit_bytes kind unicast rest)) → units.count < length datagrams
      by_rest [] is more = absurd (omega (arith, more, ap length (drop-nil {A = ℕ} units.out)))
      by_rest (datagram ∷ rest) is more = omega (arith, is)

  module _ (units : UnitBytes) (datagram : List ℕ) (found : slice_get datagrams units.count ≡ Some datagram) where
    -- they begin in the unit of the next datagram
    pub left_from : unit_bytes kind unicast (drop units.count datagrams) ≡ unit_of kind unicast datagram ++ unit_bytes kind unicast (drop (units.count + 1) datagrams)
    left_from = ap (unit_bytes kind unicast) (drop_from datagrams units.count datagram found)

    module _ (begun : UnitBytes) (is : IsBegun kind unicast datagram begun) (count_is : begun.count ≡ units.count) (out_is : begun.out ≡ units.out) where
      unit_size : length (unit_of kind unicast datagram) ≡ begun.head + length datagram + 4
      unit_size = ap length is.unit_is ∙ length-unit_with begun.head begun.around datagram is.fits

      -- the first of them are copied
      pub left_copied : (into : List ℕ) (n : ℕ) → begun.out + n ≤ begun.head + length datagram + 4
          → take n into ≡ take n (drop begun.out (unit_with begun.head begun.around datagram))
          → bytes_left kind unicast datagrams units ≡ take n into ++ drop (begun.out + n) (unit_bytes kind unicast (drop begun.count datagrams))
      left_copied into n within same =
          let all : List ℕ = unit_bytes kind unicast (drop units.count datagrams) in
          let unit : List ℕ = unit_of kind unicast datagram in
          let rest : List ℕ = unit_bytes kind unicast (drop (units.count + 1) datagrams) in
          let first : take n (drop begun.out all) ≡ take n into
          = ap (λ (t : List ℕ). take n (drop begun.out t)) left_from
          ∙ ap (take n) (drop-append-le begun.out unit rest (omega (arith, within, unit_size)))
          ∙ take-append-le n (drop begun.out unit) rest (omega (arith, length-drop begun.out unit, within, unit_size))
          ∙ ap (λ (t : List ℕ). take n (drop begun.out t)) is.unit_is
          ∙ sym same in
          ap (λ (k : ℕ). drop k all) (sym out_is)
          ∙ sym (take-append-drop n (drop begun.out all))
          ∙ ap₂ (λ (s t : List ℕ). s ++ t) first (drop-drop n begun.out all)
          ∙ ap (λ (k : ℕ). take n into ++ drop (begun.out + n) (unit_bytes kind unicast (drop k datagrams))) (sym count_is)

      -- where the unit is out the next one follows
      pub left_next : (at : ℕ) → at ≡ begun.head + length datagram + 4
          → drop at (unit_bytes kind unicast (drop begun.count datagrams)) ≡ unit_bytes kind unicast (drop (begun.count + 1) datagrams)
      left_next at end =
          ap (λ (k : ℕ). drop at (unit_bytes kind unicast (drop k datagrams))) count_is
          ∙ ap (drop at) left_from
          ∙ drop_at (unit_of kind unicast datagram) (unit_bytes kind unicast (drop (units.count + 1) datagrams)) at (unit_size ∙ sym end)
          ∙ ap (λ (k : ℕ). unit_bytes kind unicast (drop (k + 1) datagrams)) (sym count_is)

-- More bytes were copied.

pub taken : (into new : List ℕ) (done k n : ℕ) → done ≤ length into → n ≤ length new → take (done + n) (put_mid done k into new) ≡ take done into ++ take n new
taken into new done k n within count =
    let front : length (take done into) ≡ done = length-take-le done into within in
    ap (λ (m : ℕ). take (m + n) (put_mid done k into new)) (sym front)
    ∙ take-append-add (take done into) (new ++ drop k (drop done into)) n
    ∙ ap (λ (t : List ℕ). take done into ++ t) (take-append-le n new (drop k (drop done into)) count)

pub within_put : (into new : List ℕ) (done k n : ℕ) → done ≤ length into → n ≤ length new → done + n ≤ length (put_mid done k into new)
within_put into new done k n within count =
    omega (
      arith,
      length-append (take done into) (new ++ drop k (drop done into)),
      length-append new (drop k (drop done into)),
      length-take-le done into within,
      count,
    )

-- What a packer writes.

-- the bytes up to a place are among those that are not out
pub has_left : (start : ℕ) (kind : KindFields) (unicast : List ℕ) (datagrams : List (List ℕ)) (ends : List ℕ) (units : UnitBytes) (packer : PackerState)
    → IsSending start kind unicast datagrams ends units packer → (size : ℕ) → packer.at + size ≤ length (unit_bytes kind unicast datagrams)
    → size ≤ length (bytes_left kind unicast datagrams units)
has_left start kind unicast datagrams ends units packer is size within =
    omega (arith, within, ap length is.bytes_are, length-append is.before (bytes_left kind unicast datagrams units), is.before_is)

-- the bytes that a packet carries
pub carried_are : (bytes before piece left : List ℕ) (at to : ℕ) → length before ≡ at → at + length piece ≡ to → bytes ≡ before ++ (piece ++ left) → between bytes at to ≡ piece
carried_are bytes before piece left at to before_is to_is are =
    let size : to - at ≡ length piece = omega (arith, to_is) in
    ap (λ (n : ℕ). take n (drop at bytes)) size
    ∙ ap (λ (t : List ℕ). take (length piece) (drop at t)) are
    ∙ ap (take (length piece)) (drop_at before (piece ++ left) at before_is)
    ∙ take_at piece left (length piece) refl

-- they were put to their place
pub put_is : (packet piece : List ℕ) (from to size : ℕ) → to ≡ from + size → length piece ≡ size → put_mid from (to - from) packet piece ≡ with_bytes from piece packet
put_is packet piece from to size end size_is =
    let k : to - from ≡ length piece = omega (arith, end, size_is) in
    ap (λ (n : ℕ). take from packet ++ (piece ++ drop n (drop from packet))) k
    ∙ ap (λ (t : List ℕ). take from packet ++ (piece ++ t)) (drop-drop (length piece) from packet)

-- a packer at the start has no bytes out
at_first : (packer : PackerState) → IsOnWay packer [] → packer.at ≡ 0
at_first packer way = by_begun packer.begun packer.at way.begun way.at
  where
    by_begun : (begun at : ℕ) → begun ≤ 0 → at ≤ get_or (0 ∷ []) begun 0 → at ≡ 0
    by_begun zero at le here = omega (arith, here)
    by_begun (suc begun) at le here = absurd (omega (arith, le))

pub sending_first : (start : ℕ) (kind : KindFields) (unicast : List ℕ) (datagrams : List (List ℕ)) (ends : List ℕ) (units : UnitBytes) (packer : PackerState)
    → is_single kind ≡ true → AreFor kind datagrams → length datagrams < 2 ^ 32 → units.count ≡ 0 → units.out ≡ 0 → ends ≡ ends_from 0 (map (unit_of kind unicast) datagrams) → AreRising start 0 ends
    → ((es : List ℕ) → IsOnWay packer es) → IsSending start kind unicast datagrams ends units packer
sending_first start kind unicast datagrams ends units packer single are_for few count_is out_is are rising way = record {
  reading = record { single = single; datagrams_are = are_for; few = few; begun = λ some. absurd (omega (arith, some, out_is)) };
  ends_are = are;
  rising = rising;
  way = way ends;
  before = [];
  before_is = sym (at_first packer (way []));
  bytes_are = ap₂ (λ (n k : ℕ). drop n (unit_bytes kind unicast (drop k datagrams))) (sym out_is) (sym count_is);
}

-- all packets are those of the units
pub packets_first : (form : UnitForm) (kind : KindFields) (unicast : List ℕ) (datagrams : List (List ℕ)) (ends : List ℕ) (packer : PackerState) (packing : Bool) (pid counter : ℕ)
    → ends ≡ ends_from 0 (map (unit_of kind unicast) datagrams) → ((bytes es : List ℕ) → packets_left form packer bytes es ≡ packetized form packing pid counter (units_of bytes es))
    → packets_left form packer (unit_bytes kind unicast datagrams) ends ≡ packetized form packing pid counter (map (unit_of kind unicast) datagrams)
packets_first form kind unicast datagrams ends packer packing pid counter are begins =
    begins (unit_bytes kind unicast datagrams) ends
    ∙ ap (λ (units : List (List ℕ)). packetized form packing pid counter units) (units_joined (map (unit_of kind unicast) datagrams) ends are)

pub few_first : (form : UnitForm) (kind : KindFields) (unicast : List ℕ) (datagrams : List (List ℕ)) (packing : Bool) (pid counter : ℕ)
    → length (unit_bytes kind unicast datagrams) ≤ 32773 * length datagrams → length datagrams < 2 ^ 32
    → length (packetized form packing pid counter (map (unit_of kind unicast) datagrams)) ≤ 2 ^ 48
few_first form kind unicast datagrams packing pid counter most few = omega (arith, packets_most form packing pid counter (map (unit_of kind unicast) datagrams), most, few)
