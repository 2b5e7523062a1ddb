-- Texts of addresses and rules give bytes, as many as the address has.
use Rattle.std.proofs.Common.{◌≡◌, ◌⊎◌, inl, inr, ℕ, zero, suc, ◌+◌, ◌-◌, ◌*◌, ◌<◌, ◌≤◌, Bool, true, false, cond, leb, ◌&&◌, ◌||◌, List, [], ◌∷◌, ◌++◌, length, map, replicate, refl, ap, sym, subst, arith, length-append, Some, None}
use Rattle.std.specs.Prelude.{All, slice_index}
use Rattle.std.specs.List.{list_all}
use Rattle.std.proofs.lemmas.Bool.{and_parts, leb-true}
use Rattle.std.proofs.lemmas.List.{length-replicate}
use Rattle.wire_spec.specs.Bytes.{AreBytes}
use Rattle.ip_datagram.specs.declared.address.IpAddress.{IpAddress}
use Rattle.ip_datagram.specs.declared.address.IpAddress.TheVariants.{V4, V6}
use Rattle.addr_rules.specs.Texts.{is_hex, hex_value, hex_number, has_mac_frame, is_hex_pair_at, is_mac_text, hex_pair_at, mac_of_text, IsGroup, IsGroups, IsEightGroups, bytes_of_groups, IsAddressText, address_bytes, IsRuleText}
use Rattle.addr_rules.specs.declared.rules.Rule.{Rule}
use Rattle.int_spec.specs.Table.{address_size, IsRule}
use Rattle.plan_spec.specs.Bytes.{IsMac}

-- Hexadecimal digits.

or_cases : (a b : Bool) → (a || b) ≡ true → (a ≡ true) ⊎ (b ≡ true)
or_cases true b is = inl refl
or_cases false b is = inr is

within : (least most b : ℕ) → (leb least b && leb b most) ≡ true → (least ≤ b) × (b ≤ most)
within least most b is =
    let both = and_parts (leb least b) (leb b most) is in
    (leb-true least b both.0, leb-true b most both.1)

-- a digit is below 16
hex_below : (b : ℕ) → is_hex b ≡ true → hex_value b < 16
hex_below b is = by_range (or_cases (leb 48 b && leb b 57) _ is)
  where
    by_letter : ((leb 65 b && leb b 70) ≡ true) ⊎ ((leb 97 b && leb b 102) ≡ true) → hex_value b < 16
    by_letter (inl upper) =
        let bounds = within 65 70 b upper in
        let no_lower : leb 97 b ≡ false = grind (arith, bounds.1) in
        let no_digit : leb 65 b ≡ true = grind (arith, bounds.0) in
        rw no_lower (rw no_digit (omega (arith, bounds.1)))
    by_letter (inr lower) =
        let bounds = within 97 102 b lower in
        let is_lower : leb 97 b ≡ true = grind (arith, bounds.0) in
        rw is_lower (omega (arith, bounds.1))

    by_range : ((leb 48 b && leb b 57) ≡ true) ⊎ (((leb 65 b && leb b 70) || (leb 97 b && leb b 102)) ≡ true) → hex_value b < 16
    by_range (inl digit) =
        let bounds = within 48 57 b digit in
        let no_lower : leb 97 b ≡ false = grind (arith, bounds.1) in
        let no_upper : leb 65 b ≡ false = grind (arith, bounds.1) in
        rw no_lower (rw no_upper (omega (arith, bounds.1)))
    by_range (inr letter) = by_letter (or_cases (leb 65 b && leb b 70) (leb 97 b && leb b 102) letter)

-- MAC addresses.

-- pairs of digits are bytes
pairs_below : (text places : List ℕ) → list_all (λ i. is_hex_pair_at text (3 * i)) places ≡ true → AreBytes (map (λ i. hex_pair_at text (3 * i)) places)
pairs_below text [] all k d less = absurd (omega (arith, less))
pairs_below text (i ∷ places) all zero d less =
    let first = (and_parts (is_hex_pair_at text (3 * i)) _ all).0 in
    let digits = and_parts (is_hex (slice_index text (3 * i))) (is_hex (slice_index text (3 * i + 1))) first in
    omega (arith, hex_below (slice_index text (3 * i)) digits.0, hex_below (slice_index text (3 * i + 1)) digits.1)
pairs_below text (i ∷ places) all (suc k) d less =
    pairs_below text places (and_parts (is_hex_pair_at text (3 * i)) _ all).1 k d (omega (arith, less))

pub mac_is : (text mac : List ℕ) → mac_of_text text ≡ Some mac → IsMac mac
mac_is text mac told = by_test (is_mac_text text) refl told
  where
    value : List ℕ
    value = map (λ i. hex_pair_at text (3 * i)) (0 ∷ 1 ∷ 2 ∷ 3 ∷ 4 ∷ 5 ∷ [])

    same_some : (a b : List ℕ) → Some a ≡ Some b → a ≡ b
    same_some a b same = cc

    by_test : (b : Bool) → is_mac_text text ≡ b → cond b (Some value) None ≡ Some mac → IsMac mac
    by_test true test is =
        subst IsMac (same_some value mac is)
        (record { size = refl; bytes = pairs_below text (0 ∷ 1 ∷ 2 ∷ 3 ∷ 4 ∷ 5 ∷ []) (and_parts (has_mac_frame text) _ test).1 })
    by_test false test is = absurd (cc)

-- Groups of IPv6 addresses.

abbrev AreGroups : List ℕ → Type 0
AreGroups [] = Unit {0}
AreGroups (group ∷ groups) = (group < 65536) × AreGroups groups

groups_append : (xs ys : List ℕ) → AreGroups xs → AreGroups ys → AreGroups (xs ++ ys)
groups_append [] ys of_xs of_ys = of_ys
groups_append (x ∷ xs) ys of_xs of_ys = (of_xs.0, groups_append xs ys of_xs.1 of_ys)

zeros_are_groups : (n : ℕ) → AreGroups (replicate n 0)
zeros_are_groups zero = tt
zeros_are_groups (suc n) = (omega arith, zeros_are_groups n)

-- up to four digits are below 65,536
digits_below : (digits : List ℕ) → length digits ≤ 4 → list_all is_hex digits ≡ true → hex_number digits < 65536
digits_below [] few all = omega arith
digits_below (a ∷ []) few all = let one = hex_below a (and_parts (is_hex a) _ all).0 in omega (arith, one)
digits_below (a ∷ b ∷ []) few all =
    let first = and_parts (is_hex a) _ all in
    let second = and_parts (is_hex b) _ first.1 in
    omega (arith, hex_below a first.0, hex_below b second.0)
digits_below (a ∷ b ∷ c ∷ []) few all =
    let first = and_parts (is_hex a) _ all in
    let second = and_parts (is_hex b) _ first.1 in
    let third = and_parts (is_hex c) _ second.1 in
    omega (arith, hex_below a first.0, hex_below b second.0, hex_below c third.0)
digits_below (a ∷ b ∷ c ∷ d ∷ []) few all =
    let first = and_parts (is_hex a) _ all in
    let second = and_parts (is_hex b) _ first.1 in
    let third = and_parts (is_hex c) _ second.1 in
    let fourth = and_parts (is_hex d) _ third.1 in
    omega (arith, hex_below a first.0, hex_below b second.0, hex_below c third.0, hex_below d fourth.0)
digits_below (a ∷ b ∷ c ∷ d ∷ e ∷ digits) few all = absurd (omega (arith, few))

pieces_are_groups : (pieces : List (List ℕ)) → All (λ piece. IsGroup piece) pieces → AreGroups (map hex_number pieces)
pieces_are_groups [] all = tt
pieces_are_groups (piece ∷ pieces) all = (
  digits_below piece (all 0 [] (omega arith)).few (all 0 [] (omega arith)).digits,
  pieces_are_groups pieces (λ k d less. all (suc k) d (omega (arith, less))),
)

groups_are : (text groups : List ℕ) → IsGroups text groups → AreGroups groups
groups_are text groups is = subst AreGroups (sym is.values) (pieces_are_groups is.pieces is.each)

eight_are : (text groups : List ℕ) → IsEightGroups text groups → AreGroups groups × (length groups ≡ 8)
eight_are text groups (inl whole) = (groups_are text groups whole.spelled, whole.eight)
eight_are text groups (inr short) = (
  subst AreGroups (sym short.value)
      (groups_append (short.front ++ zeros) short.back
      (groups_append short.front zeros (groups_are short.front_text short.front short.front_spelled) (zeros_are_groups (8 - (length short.front + length short.back))))
      (groups_are short.back_text short.back short.back_spelled)),
  omega (
    arith,
    ap length short.value,
    length-append (short.front ++ zeros) short.back,
    length-append short.front zeros,
    length-replicate {A = ℕ} (8 - (length short.front + length short.back)) 0,
    short.few,
  ),
)
  where
    zeros : List ℕ
    zeros = replicate (8 - (length short.front + length short.back)) 0

-- each group is two bytes
groups_bytes : (groups : List ℕ) → AreGroups groups → AreBytes (bytes_of_groups groups)
groups_bytes [] all k d less = absurd (omega (arith, less))
groups_bytes (group ∷ groups) all zero d less = omega (arith, all.0)
groups_bytes (group ∷ groups) all (suc zero) d less = omega arith
groups_bytes (group ∷ groups) all (suc (suc k)) d less = groups_bytes groups all.1 k d (omega (arith, less))

groups_length : (groups : List ℕ) → length (bytes_of_groups groups) ≡ 2 * length groups
groups_length [] = refl
groups_length (group ∷ groups) = omega (arith, groups_length groups)

-- Addresses and rules.

address_is : (text : List ℕ) (address : IpAddress) → IsAddressText text address → AreBytes (address_bytes address) × (length (address_bytes address) ≡ address_size address)
address_is text (V4 bytes) is = (is.bytes, is.four)
address_is text (V6 bytes) is =
    let eight = eight_are text is.groups is.spelled in (
      subst AreBytes (sym is.value) (groups_bytes is.groups eight.0),
      omega (arith, ap length is.value, groups_length is.groups, eight.1),
    )

pub rule_is : (text : List ℕ) (rule : Rule) → IsRuleText text rule → IsRule rule
rule_is text rule is =
    let address = address_is is.address_text rule.address is.address in
    record { bytes = address.0; size = address.1; slash = is.range }
