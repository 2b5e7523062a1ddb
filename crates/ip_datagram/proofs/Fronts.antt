-- A front is the first bytes that are a datagram: its header stands within it, and tells its length.
use Rattle.std.proofs.Common.{◌≡◌, ◌≢◌, ◌⊎◌, inl, inr, ⊎_elim, ℕ, ◌+◌, ◌*◌, ◌≤◌, ◌%◌, ◌/◌, Bool, true, false, cond, List, length, take, get_or, Some, None, refl, ap, sym, ◌∙◌, subst, arith}
use Rattle.std.proofs.lemmas.Bool.{cond-true, cond-false}
use Rattle.std.proofs.lemmas.List.{get_or-take, length-take-le}
use Rattle.wire_spec.specs.Bytes.{u16_at}
use Rattle.wire_spec.specs.Datagram.{version, header_length, total_length, ipv6_length, IsIpv4, IsIpv6, IsFront, has_ipv4_front, has_ipv6_front, front_length}

-- what the tests say
pub ipv4_parts : (b : List ℕ) → has_ipv4_front b ≡ true
    → (version b ≡ 4) × (20 ≤ header_length b) × (header_length b ≤ total_length b) × (total_length b ≤ length b)
ipv4_parts b h = (grind arith, grind arith, grind arith, grind arith)

pub ipv6_parts : (b : List ℕ) → has_ipv6_front b ≡ true
    → (version b ≡ 6) × (ipv6_length b ≤ length b) × (u16_at b 4 + get_or b 6 0 ≢ 0)
ipv6_parts b h = (grind arith, grind arith, grind arith)

-- the tests from what they say
pub ipv4_test : (b : List ℕ) → version b ≡ 4 → 20 ≤ header_length b → header_length b ≤ total_length b → total_length b ≤ length b
    → has_ipv4_front b ≡ true
ipv4_test b v h t l = grind arith

pub ipv6_test : (b : List ℕ) → version b ≡ 6 → ipv6_length b ≤ length b → u16_at b 4 + get_or b 6 0 ≢ 0 → has_ipv6_front b ≡ true
ipv6_test b v l j = grind arith

-- one version's test rules out the other's
pub ipv6_is_no_ipv4 : (b : List ℕ) → version b ≡ 6 → has_ipv4_front b ≡ false
ipv6_is_no_ipv4 b v = grind arith

-- a front keeps the bytes that its header's fields stand in
version-take : (n : ℕ) (b : List ℕ) → 1 ≤ n → version (take n b) ≡ version b
version-take n b l = ap (λ x. x / 16) (get_or-take n b 0 0 (omega arith))

header_length-take : (n : ℕ) (b : List ℕ) → 1 ≤ n → header_length (take n b) ≡ header_length b
header_length-take n b l = ap (λ x. 4 * (x % 16)) (get_or-take n b 0 0 (omega arith))

u16_at-take : (n : ℕ) (b : List ℕ) (i : ℕ) → i + 2 ≤ n → u16_at (take n b) i ≡ u16_at b i
u16_at-take n b i l = rw (get_or-take n b i 0 (omega arith), get_or-take n b (i + 1) 0 (omega arith)) refl

-- the first test that holds gives the value
either_of : (f x : Bool) (t s n : ℕ) → cond f (Some t) (cond x (Some s) None) ≡ Some n → ((f ≡ true) × (t ≡ n)) ⊎ ((x ≡ true) × (s ≡ n))
either_of true x t s n e = inl (refl, cc)
either_of false true t s n e = inr (refl, cc)
either_of false false t s n e = cc

-- the tested length is that of a datagram
ipv4_front_is : (b : List ℕ) → has_ipv4_front b ≡ true → IsFront b (total_length b)
ipv4_front_is b h =
    let p : (version b ≡ 4) × (20 ≤ header_length b) × (header_length b ≤ total_length b) × (total_length b ≤ length b) = ipv4_parts b h in
    let v = version-take (total_length b) b (omega (arith, p.1, p.2)) in
    let k = header_length-take (total_length b) b (omega (arith, p.1, p.2)) in
    let t = u16_at-take (total_length b) b 2 (omega (arith, p.1, p.2)) in
    record {
      within = p.3;
      datagram = inl (record {
        version_is = v ∙ p.0;
        header = omega (arith, k, p.1);
        holds_header = omega (arith, k, t, p.2);
        size = length-take-le (total_length b) b p.3 ∙ sym t;
      });
    }

ipv6_front_is : (b : List ℕ) → has_ipv6_front b ≡ true → IsFront b (ipv6_length b)
ipv6_front_is b h =
    let p : (version b ≡ 6) × (ipv6_length b ≤ length b) × (u16_at b 4 + get_or b 6 0 ≢ 0) = ipv6_parts b h in
    let v = version-take (ipv6_length b) b (omega arith) in
    let t = u16_at-take (ipv6_length b) b 4 (omega arith) in
    let e = get_or-take (ipv6_length b) b 6 0 (omega arith) in
    record {
      within = p.1;
      datagram = inr (record {
        version_is = v ∙ p.0;
        size = length-take-le (ipv6_length b) b p.1 ∙ omega (arith, t);
        no_jumbogram = λ zero_fields. p.2 (omega (arith, t, e, zero_fields));
      });
    }

-- which version's header tells the length
pub front_cases : (b : List ℕ) (n : ℕ) → front_length b ≡ Some n
    → ((has_ipv4_front b ≡ true) × (total_length b ≡ n)) ⊎ ((has_ipv6_front b ≡ true) × (ipv6_length b ≡ n))
front_cases b n e = either_of (has_ipv4_front b) (has_ipv6_front b) (total_length b) (ipv6_length b) n e

-- the length that a header tells is the one for which the first bytes are a datagram
pub IsFront-front_length : (b : List ℕ) (n : ℕ) → front_length b ≡ Some n → IsFront b n
IsFront-front_length b n e =
    ⊎_elim
    (λ (four : (has_ipv4_front b ≡ true) × (total_length b ≡ n)). subst (λ (m : ℕ). IsFront b m) four.1 (ipv4_front_is b four.0))
    (λ (six : (has_ipv6_front b ≡ true) × (ipv6_length b ≡ n)). subst (λ (m : ℕ). IsFront b m) six.1 (ipv6_front_is b six.0))
    (front_cases b n e)

front_of_ipv4 : (b : List ℕ) (n : ℕ) → n ≤ length b → IsIpv4 (take n b) → front_length b ≡ Some n
front_of_ipv4 b n l d =
    let s : n ≡ total_length (take n b) = sym (length-take-le n b l) ∙ d.size in
    let v = version-take n b (omega (arith, d.header, d.holds_header, s)) in
    let k = header_length-take n b (omega (arith, d.header, d.holds_header, s)) in
    let t = u16_at-take n b 2 (omega (arith, d.header, d.holds_header, s)) in
    let yes : has_ipv4_front b ≡ true = ipv4_test b (sym v ∙ d.version_is) (omega (arith, k, d.header)) (omega (arith, k, t, d.holds_header)) (omega (arith, s, t, l)) in
    cond-true (has_ipv4_front b) (Some (total_length b)) (cond (has_ipv6_front b) (Some (ipv6_length b)) None) yes ∙ ap (λ m. Some m) (sym t ∙ sym s)

front_of_ipv6 : (b : List ℕ) (n : ℕ) → n ≤ length b → IsIpv6 (take n b) → front_length b ≡ Some n
front_of_ipv6 b n l d =
    let s : n ≡ ipv6_length (take n b) = sym (length-take-le n b l) ∙ d.size in
    let v = version-take n b (omega (arith, s)) in
    let t = u16_at-take n b 4 (omega (arith, s)) in
    let e = get_or-take n b 6 0 (omega (arith, s)) in
    let is_six : version b ≡ 6 = sym v ∙ d.version_is in
    let yes : has_ipv6_front b ≡ true = ipv6_test b is_six (omega (arith, s, t, l)) (λ zero_fields. d.no_jumbogram (omega (arith, t, e, zero_fields))) in
    cond-false (has_ipv4_front b) (Some (total_length b)) (cond (has_ipv6_front b) (Some (ipv6_length b)) None) (ipv6_is_no_ipv4 b is_six)
    ∙ (cond-true (has_ipv6_front b) (Some (ipv6_length b)) None yes ∙ ap (λ m. Some m) (omega (arith, s, t)))

-- and the other way round: no other length
pub front_length-from_front : (b : List ℕ) (n : ℕ) → IsFront b n → front_length b ≡ Some n
front_length-from_front b n f = ⊎_elim (λ (d : IsIpv4 (take n b)). front_of_ipv4 b n f.within d) (λ (d : IsIpv6 (take n b)). front_of_ipv6 b n f.within d) f.datagram
