-- Units one after another in a buffer.
use Rattle.std.proofs.Common.{◌≡◌, ℕ, zero, suc, ◌+◌, ◌-◌, ◌<◌, ◌≤◌, Bool, true, false, cond, eqb, List, [], ◌∷◌, ◌++◌, length, map, take, drop, get_or, refl, sym, ap, ◌∙◌, arith, append_assoc, append-nil, Option, Some, None, subst}
use Rattle.std.specs.Prelude.{All, slice_get}
use Rattle.std.specs.Int.{w32, to_be_bytes}
use Rattle.std.proofs.lemmas.List.{length-append, take_at, drop_at, map-append}
use Rattle.std.proofs.Math.Seq.{take-length}
use Rattle.wire_spec.specs.Lists.{joined}
use Rattle.wire_spec.specs.Crc.{crc32_remainder}
use Rattle.ts_spec.specs.Form.{UnitForm}
use Rattle.ts_spec.specs.Sndu.{sndu_front, sndu_bytes}
use Rattle.section_spec.specs.Mpe.{mpe_to_write, mpe_body}
use Rattle.section_codec.proofs.Written.{length-section_bytes}
use Rattle.unit_stream.specs.Packing.{filled, may_begin, begin_piece, middle_piece, pieces, byte_count, packetized}
use Rattle.unit_stream.specs.Packers.{between, units_from, units_of, AreRising, AreEnds}
use Rattle.unit_stream.proofs.Written.{length-numbered}
use Rattle.wire_spec.specs.Datagram.{ether_type_of}
use Rattle.stream_spec.specs.Units.{mac_for, sndu_of, section_of}
use Rattle.ts_mux.specs.Units.{ends_from}
use Rattle.ts_mux.proofs.Items.{take_next}

-- Where units end.

joined_more : (units : List (List ℕ)) (unit : List ℕ) → joined (units ++ unit ∷ []) ≡ joined units ++ unit
joined_more [] unit = append-nil unit
joined_more (first ∷ units) unit = ap (λ (t : List ℕ). first ++ t) (joined_more units unit) ∙ sym (append_assoc first (joined units) unit)

units_next : (unit : List ℕ → List ℕ) (datagrams : List (List ℕ)) (i : ℕ) (datagram : List ℕ) → slice_get datagrams i ≡ Some datagram
    → map unit (take (i + 1) datagrams) ≡ map unit (take i datagrams) ++ unit datagram ∷ []
units_next unit datagrams i datagram found = ap (map unit) (take_next datagrams i datagram found) ∙ map-append unit (take i datagrams) (datagram ∷ [])

ends_more : (from : ℕ) (units : List (List ℕ)) (unit : List ℕ) → ends_from from (units ++ unit ∷ []) ≡ ends_from from units ++ (from + length (joined units) + length unit) ∷ []
ends_more from [] unit = ap (λ (n : ℕ). n ∷ []) (zero_more from (length unit))
  where
    zero_more : (a b : ℕ) → a + b ≡ a + 0 + b
    zero_more a b = omega arith
ends_more from (first ∷ units) unit =
    ap (λ (t : List ℕ). (from + length first) ∷ t) (ends_more (from + length first) units unit)
    ∙ ap (λ (n : ℕ). (from + length first) ∷ (ends_from (from + length first) units ++ n ∷ [])) (sums (length first) (length (joined units)) (length (first ++ joined units)) (length-append first (joined units)))
  where
    sums : (a b c : ℕ) → c ≡ a + b → from + a + b + length unit ≡ from + c + length unit
    sums a b c e = omega (arith, e)

-- the units of one datagram more
bytes_next : (unit : List ℕ → List ℕ) (datagrams : List (List ℕ)) (i : ℕ) (datagram : List ℕ) → slice_get datagrams i ≡ Some datagram
    → joined (map unit (take (i + 1) datagrams)) ≡ joined (map unit (take i datagrams)) ++ unit datagram
bytes_next unit datagrams i datagram found =
    ap joined (units_next unit datagrams i datagram found) ∙ joined_more (map unit (take i datagrams)) (unit datagram)

-- the end of one unit more
pub end_next : (unit : List ℕ → List ℕ) (datagrams : List (List ℕ)) (i : ℕ) (datagram : List ℕ) (end size : ℕ) (ends : List ℕ)
    → slice_get datagrams i ≡ Some datagram → ends ≡ ends_from 0 (map unit (take i datagrams)) → end ≡ length (joined (map unit (take i datagrams))) → size ≡ length (unit datagram)
    → (ends ++ (end + size) ∷ [] ≡ ends_from 0 (map unit (take (i + 1) datagrams))) × (end + size ≡ length (joined (map unit (take (i + 1) datagrams))))
end_next unit datagrams i datagram end size ends found ends_are end_is size_is = (
  ap (λ (t : List ℕ). t ++ (end + size) ∷ []) ends_are
      ∙ ap (λ (n : ℕ). ends_from 0 (map unit (take i datagrams)) ++ n ∷ []) (sums end (length (joined (map unit (take i datagrams)))) size (length (unit datagram)) end_is size_is)
      ∙ sym (ends_more 0 (map unit (take i datagrams)) (unit datagram))
      ∙ ap (ends_from 0) (sym (units_next unit datagrams i datagram found)),
  omega (arith, ap length (bytes_next unit datagrams i datagram found), length-append (joined (map unit (take i datagrams))) (unit datagram), end_is, size_is),
)
  where
    sums : (a b c d : ℕ) → a ≡ b → c ≡ d → a + c ≡ 0 + b + d
    sums a b c d e e2 = omega (arith, e, e2)

-- What stands in a buffer are the units.

units_ended : (units : List (List ℕ)) (rest : List ℕ) (all : List ℕ) → all ≡ joined units ++ rest → units_of all (ends_from 0 units) ≡ units
units_ended units rest all is = from_place 0 [] units rest refl is
  where
    from_place : (from : ℕ) (front : List ℕ) (us : List (List ℕ)) (rest : List ℕ) → from ≡ length front → all ≡ front ++ (joined us ++ rest) → units_from from all (ends_from from us) ≡ us
    from_place from front [] rest at is = refl
    from_place from front (unit ∷ us) rest at is =
        let there : drop from all ≡ unit ++ (joined us ++ rest)
        = ap (drop from) is ∙ drop_at front ((unit ++ joined us) ++ rest) from (sym at) ∙ append_assoc unit (joined us) rest in
        let size : from + length unit - from ≡ length unit = omega arith in
        let first : between all from (from + length unit) ≡ unit
        = ap (λ (n : ℕ). take n (drop from all)) size ∙ ap (take (length unit)) there ∙ take_at unit (joined us ++ rest) (length unit) refl in
        let behind : all ≡ (front ++ unit) ++ (joined us ++ rest)
        = is ∙ ap (λ (t : List ℕ). front ++ t) (append_assoc unit (joined us) rest) ∙ sym (append_assoc front unit (joined us ++ rest)) in
        ap (λ (t : List ℕ). t ∷ units_from (from + length unit) all (ends_from (from + length unit) us)) first
        ∙ ap (λ (t : List (List ℕ)). unit ∷ t) (from_place (from + length unit) (front ++ unit) us rest (omega (arith, at, length-append front unit)) behind)

-- the units of bytes that are of nothing else
pub units_joined : (units : List (List ℕ)) (ends : List ℕ) → ends ≡ ends_from 0 units → units_of (joined units) ends ≡ units
units_joined units ends are = ap (units_from 0 (joined units)) are ∙ units_ended units [] (joined units) (sym (append-nil (joined units)))

pub rising_held : (start from : ℕ) (units : List (List ℕ)) → All (λ (unit : List ℕ). start ≤ length unit) units → AreRising start from (ends_from from units)
rising_held start from [] least = tt
rising_held start from (unit ∷ units) least = (more (length unit) (least 0 unit (omega arith)), rising_held start (from + length unit) units (λ n d less. least (suc n) d (omega (arith, less))))
  where
    more : (n : ℕ) → start ≤ n → from + start ≤ from + n
    more n le = omega (arith, le)

pub last_held : (from : ℕ) (units : List (List ℕ)) → get_or (from ∷ ends_from from units) (length (ends_from from units)) 0 ≡ from + length (joined units)
last_held from [] = omega arith
last_held from (unit ∷ units) = omega (arith, last_held (from + length unit) units, length-append unit (joined units))

-- One unit alone in a buffer.

pub one_unit : (unit ends : List ℕ) → ends ≡ length unit ∷ [] → units_of unit ends ≡ unit ∷ []
one_unit unit ends are = ap (units_of unit) are ∙ ap (λ (u : List ℕ). u ∷ []) (ap (λ (n : ℕ). take n unit) (whole (length unit)) ∙ take-length unit)
  where
    whole : (n : ℕ) → n - 0 ≡ n
    whole n = omega arith

pub one_end : (unit ends : List ℕ) → ends ≡ length unit ∷ [] → 0 < length unit → AreEnds 1 (length unit) ends
one_end unit ends are some = subst (AreEnds 1 (length unit)) (sym are) (record { rising = (omega (arith, some), tt); within = omega arith })

-- Sizes.

sndu_least : (npa : Option (List ℕ)) (first_type : ℕ) (datagram : List ℕ) → 2 ≤ length (sndu_bytes npa first_type datagram)
sndu_least npa first_type datagram =
    omega (arith, length-append (sndu_front npa first_type datagram) (to_be_bytes w32 (crc32_remainder 0xFFFF_FFFF (sndu_front npa first_type datagram))))

section_least : (unicast datagram : List ℕ) → 1 ≤ length (section_of unicast datagram)
section_least unicast datagram = omega (arith, length-section_bytes 0x3E 0xB0 (mpe_body (mpe_to_write (mac_for unicast datagram) None datagram)))

each_least : (unit : List ℕ → List ℕ) (start : ℕ) → ((datagram : List ℕ) → start ≤ length (unit datagram)) → (datagrams : List (List ℕ)) → All (λ (u : List ℕ). start ≤ length u) (map unit datagrams)
each_least unit start each [] n d less = absurd (omega (arith, less))
each_least unit start each (datagram ∷ datagrams) zero d less = each datagram
each_least unit start each (datagram ∷ datagrams) (suc n) d less = each_least unit start each datagrams n d (omega (arith, less))

pub sndus_least : (address : Bool) (unicast : List ℕ) (datagrams : List (List ℕ)) → All (λ (unit : List ℕ). 2 ≤ length unit) (map (sndu_of address unicast) datagrams)
sndus_least address unicast datagrams = each_least (sndu_of address unicast) 2 (λ d. sndu_least (cond address (Some (mac_for unicast d)) None) (ether_type_of d) d) datagrams

pub sections_least : (unicast : List ℕ) (datagrams : List (List ℕ)) → All (λ (unit : List ℕ). 1 ≤ length unit) (map (section_of unicast) datagrams)
sections_least unicast datagrams = each_least (section_of unicast) 1 (section_least unicast) datagrams

pieces_most : (most start : ℕ) (packing : Bool) (rest : List ℕ) (units : List (List ℕ)) → length (pieces most start packing rest units) ≤ most
pieces_most zero start packing rest units = omega arith
pieces_most (suc most) start packing rest units =
    by_begin (may_begin start packing rest units) (eqb (length rest) 0)
    (pieces_most most start packing (filled start packing (183 - length rest) units).rest (filled start packing (183 - length rest) units).units)
    (pieces_most most start packing (drop 184 rest) units)
  where
    by_begin : (begins none : Bool)
        → length (pieces most start packing (filled start packing (183 - length rest) units).rest (filled start packing (183 - length rest) units).units) ≤ most
        → length (pieces most start packing (drop 184 rest) units) ≤ most
        → length (cond begins (begin_piece rest (filled start packing (183 - length rest) units) (pieces most start packing))
        (cond none [] (middle_piece rest ∷ pieces most start packing (drop 184 rest) units))) ≤ suc most
    by_begin true none le le2 = omega (arith, le)
    by_begin false true le le2 = omega arith
    by_begin false false le le2 = omega (arith, le2)

pub count_joined : (units : List (List ℕ)) → byte_count units ≡ length (joined units)
count_joined [] = refl
count_joined (unit ∷ units) = omega (arith, count_joined units, length-append unit (joined units))

-- there are no more packets than bytes
pub packets_most : (form : UnitForm) (packing : Bool) (pid counter : ℕ) (units : List (List ℕ)) → length (packetized form packing pid counter units) ≤ length (joined units)
packets_most form packing pid counter units =
    omega (
      arith,
      length-numbered pid counter (pieces (byte_count units) form.start packing [] units),
      pieces_most (byte_count units) form.start packing [] units,
      count_joined units,
    )
