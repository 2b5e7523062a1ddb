-- What a captured record gives is a datagram.
use Rattle.std.proofs.Common.{◌≡◌, ℕ, Bool, true, false, cond, ◌&&◌, ◌==◌, List, [], ◌∷◌, map, take, drop, Option, Some, None, IfSome, option_map, option_copied, refl, ap, sym, ◌∙◌, subst}
use Rattle.std.specs.Borrow.{Bor}
use Rattle.std.proofs.lemmas.Bool.{and_parts}
use Rattle.std.proofs.lemmas.Option.{same_Some, none-some}
use Rattle.std.proofs.lemmas.List.Elements.{All-nil, All-cons}
use Rattle.wire_spec.specs.Bytes.{u16_at}
use Rattle.wire_spec.specs.Datagram.{IsDatagram, total_length, ipv6_length, has_ipv4_front, has_ipv6_front, front_length, ether_type_ipv4, ether_type_ipv6}
use Rattle.ip_datagram.proofs.Fronts.{IsFront-front_length, ipv6_parts, ipv6_is_no_ipv4}
use Rattle.pcap_file.specs.Captured.{captured_datagram}
use Rattle.pcap_file.specs.declared.captured.LinkType.{LinkType}
use Rattle.pcap_file.specs.declared.captured.LinkType.TheVariants.{Ethernet, Raw}
use Rattle.datagram_routing.specs.Offering.{HoldDatagrams}
use Rattle.stream_law.specs.Captures.{datagram_in}

taken_front : (b d : List ℕ) (n : ℕ) → front_length b ≡ Some n → take n b ≡ d → IsDatagram d
taken_front b d n e is = subst (λ (x : List ℕ). IsDatagram x) is (IsFront-front_length b n e).datagram

of_front : (b d : List ℕ) (o : Option ℕ) → front_length b ≡ o → option_map (λ n. take n b) o ≡ Some d → IsDatagram d
of_front b d None e is = absurd (none-some d is)
of_front b d (Some n) e is = taken_front b d n e (same_Some (take n b) d is)

ipv4_front : (b : List ℕ) → has_ipv4_front b ≡ true → front_length b ≡ Some (total_length b)
ipv4_front b h = ap (λ (t : Bool). cond t (Some (total_length b)) (cond (has_ipv6_front b) (Some (ipv6_length b)) None)) h

ipv6_front : (b : List ℕ) → has_ipv6_front b ≡ true → front_length b ≡ Some (ipv6_length b)
ipv6_front b h =
    ap (λ (t : Bool). cond t (Some (total_length b)) (cond (has_ipv6_front b) (Some (ipv6_length b)) None)) (ipv6_is_no_ipv4 b (ipv6_parts b h).0)
    ∙ ap (λ (t : Bool). cond t (Some (ipv6_length b)) None) h

by_type : (b d : List ℕ) (x y : Bool) → (x ≡ true → has_ipv4_front b ≡ true) → (y ≡ true → has_ipv6_front b ≡ true)
    → cond x (Some (take (total_length b) b)) (cond y (Some (take (ipv6_length b) b)) None) ≡ Some d → IsDatagram d
by_type b d true y four six e = taken_front b d (total_length b) (ipv4_front b (four refl)) (same_Some (take (total_length b) b) d e)
by_type b d false true four six e = taken_front b d (ipv6_length b) (ipv6_front b (six refl)) (same_Some (take (ipv6_length b) b) d e)
by_type b d false false four six e = absurd (none-some d e)

pub captured_is_datagram : (link : LinkType) (b d : List ℕ) → captured_datagram link b ≡ Some d → IsDatagram d
captured_is_datagram Raw b d e = of_front b d (front_length b) refl e
captured_is_datagram Ethernet b d e =
    by_type (drop 14 b) d ((u16_at b 12 == ether_type_ipv4) && has_ipv4_front (drop 14 b)) ((u16_at b 12 == ether_type_ipv6) && has_ipv6_front (drop 14 b))
    (λ h. (and_parts (u16_at b 12 == ether_type_ipv4) (has_ipv4_front (drop 14 b)) h).1)
    (λ h. (and_parts (u16_at b 12 == ether_type_ipv6) (has_ipv6_front (drop 14 b)) h).1)
    e

-- what is lent of a record
pub lent_is_datagram : (link : LinkType) (b : List ℕ) (o : Option (Bor (List ℕ))) → option_copied o ≡ captured_datagram link b → IfSome o (λ bytes. IsDatagram bytes.now)
lent_is_datagram link b None e = tt
lent_is_datagram link b (Some d) e = captured_is_datagram link b d.now (sym e)

given_is_datagram : (link : Option LinkType) (b : List ℕ) (o : Option (List ℕ)) → datagram_in link b ≡ o → IfSome o IsDatagram
given_is_datagram link b None e = tt
given_is_datagram None b (Some d) e = absurd (none-some d e)
given_is_datagram (Some link) b (Some d) e = captured_is_datagram link b d e

pub all_datagrams : (link : Option LinkType) (captured : List (List ℕ)) → HoldDatagrams (map (datagram_in link) captured)
all_datagrams link [] = All-nil (λ datagram. IfSome datagram IsDatagram)
all_datagrams link (b ∷ captured) =
    All-cons (λ datagram. IfSome datagram IsDatagram) (datagram_in link b) (map (datagram_in link) captured) (given_is_datagram link b (datagram_in link b) refl) (all_datagrams link captured)
